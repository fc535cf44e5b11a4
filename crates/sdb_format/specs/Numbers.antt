-- Numbers of one, two and four bytes, the highest byte first, within limits.
use Rattle.std.specs.Prelude.{ℕ, ◌+◌, ◌*◌, ◌/◌, ◌%◌, ◌≤◌, Bool, ◌&&◌, nat_le, if◌then◌else◌, List, [], ◌∷◌, ◌++◌, Ok, Err}
use Rattle.sdb_format.specs.declared.fault.FormatFault.TheVariants.{Short, Bad}
use Rattle.sdb_format.specs.Readers.{Reader, then_at, seen_at}

-- from the least to the most
pub record IsWithin (least most n : ℕ) : Type 0 where
  pub low : least ≤ n
  pub high : n ≤ most

-- a byte that passes the test
abbrev pub byte_where : (ℕ → Bool) → Reader ℕ
byte_where p [] = Err Short
byte_where p (b ∷ rest) = if p b then Ok (b, rest) else Err Bad

-- a byte within limits
abbrev pub byte_in : ℕ → ℕ → Reader ℕ
byte_in least most = byte_where (λ b. nat_le least b && nat_le b most)

-- a number below 2^16, of which the first byte is judged by itself
abbrev pub u16_in : ℕ → ℕ → Reader ℕ
u16_in least most [] = Err Short
u16_in least most (a ∷ []) = if nat_le (least / 256) a && nat_le a (most / 256) then Err Short else Err Bad
u16_in least most (a ∷ b ∷ rest) =
    if nat_le b 255 && (nat_le least (a * 256 + b) && nat_le (a * 256 + b) most) then Ok (a * 256 + b, rest) else Err Bad

-- the two bytes of a number below 2^16
abbrev pub be16 : ℕ → List ℕ
be16 n = n / 256 ∷ n % 256 ∷ []

-- the number that two halves make
abbrev pub u32_parts : ℕ × ℕ → ℕ
u32_parts x = x.0 * 65536 + x.1

-- a number below 2^32
abbrev pub u32_at : Reader ℕ
u32_at = seen_at u32_parts (then_at (u16_in 0 65535) (λ high. u16_in 0 65535))

-- its four bytes
abbrev pub be32 : ℕ → List ℕ
be32 n = be16 (n / 65536) ++ be16 (n % 65536)
