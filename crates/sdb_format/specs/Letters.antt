-- Texts of a length that is known before them: in UTF-8, or of letters that pass a test.
use Rattle.std.specs.Prelude.{◌≡◌, ℕ, zero, suc, ◌-◌, ◌≤◌, Bool, true, ◌&&◌, ◌==◌, nat_le, nat_lt, if◌then◌else◌, List, [], ◌∷◌, ◌++◌, length, Option, None, Some, Ok, Err}
use Rattle.std.specs.List.{list_all}
use Rattle.std.specs.Str.{IsUtf8}
use Rattle.std.specs.Str.Lossy.{second_byte_min, second_byte_max}
use Rattle.sdb_format.specs.declared.fault.FormatFault.TheVariants.{Short, Bad}
use Rattle.sdb_format.specs.declared.place.Place.{Place}
use Rattle.sdb_format.specs.Readers.{Reading, Reader, then_at, seen_at, times_at, mapped, second}
use Rattle.sdb_format.specs.Numbers.{be16, u16_in, byte_where}

-- Where the next byte stands in a character: `left` bytes of it are to come, none between characters, and the next
-- one is from `least` to `most` (Unicode, table 3-7).
abbrev pub at_place : ℕ → ℕ → ℕ → Place
at_place least most left = record { least = least; most = most; left = left }

-- between two characters
abbrev pub between : Place
between = at_place 128 191 0

-- the place after a character's first byte
abbrev pub after_first : ℕ → Option Place
after_first b =
    if nat_lt b 128 then Some between
    else (if nat_lt b 194 then None
    else (if nat_lt b 224 then Some (at_place (second_byte_min b) (second_byte_max b) 1)
    else (if nat_lt b 240 then Some (at_place (second_byte_min b) (second_byte_max b) 2)
    else (if nat_lt b 245 then Some (at_place (second_byte_min b) (second_byte_max b) 3) else None))))

-- the place after a later byte of a character
abbrev pub after_later : Place → ℕ → Option Place
after_later p b = if nat_le p.least b && nat_le b p.most then Some (at_place 128 191 (p.left - 1)) else None

-- the place after the byte, where it may stand there
abbrev pub after_byte : Place → ℕ → Option Place
after_byte p b = if p.left == 0 then after_first b else after_later p b

-- the byte put in front of the letters that follow
abbrev pub with_letter : ℕ → Reading (List ℕ) → Reading (List ℕ)
with_letter b reading = mapped (λ letters. b ∷ letters) reading

-- on to the place, where the rest of its character fits in n bytes
abbrev pub step_to : ℕ → Option Place → (Place → Reading (List ℕ)) → Reading (List ℕ)
step_to n None next = Err Bad
step_to n (Some q) next = if nat_le q.left n then next q else Err Bad

-- so many bytes that go on a text; a character that doesn't fit in them is Bad
abbrev pub letters_from : Place → ℕ → Reader (List ℕ)
letters_from p zero bytes = if p.left == 0 then Ok ([], bytes) else Err Bad
letters_from p (suc n) [] = Err Short
letters_from p (suc n) (b ∷ bytes) = with_letter b (step_to n (after_byte p b) (λ q. letters_from q n bytes))

-- so many bytes in UTF-8
abbrev pub letters_at : ℕ → Reader (List ℕ)
letters_at n = letters_from between n

-- so many bytes that are UTF-8
pub record AreLetters (n : ℕ) (bytes : List ℕ) : Type 0 where
  pub size : length bytes ≡ n
  pub utf8 : IsUtf8 bytes

-- a text behind its length of two bytes
abbrev pub text_in : ℕ → ℕ → Reader (List ℕ)
text_in least most = seen_at second (then_at (u16_in least most) letters_at)

-- its bytes
abbrev pub text_bytes : List ℕ → List ℕ
text_bytes text = be16 (length text) ++ text

-- a text within limits on its length
pub record IsTextWithin (least most : ℕ) (text : List ℕ) : Type 0 where
  pub low : least ≤ length text
  pub high : length text ≤ most
  pub utf8 : IsUtf8 text

-- so many bytes that each pass the test
abbrev pub passing_at : (ℕ → Bool) → ℕ → Reader (List ℕ)
passing_at p n = times_at n (byte_where p)

-- so many bytes, each of which passes
pub record ArePassing (p : ℕ → Bool) (n : ℕ) (bytes : List ℕ) : Type 0 where
  pub size : length bytes ≡ n
  pub pass : list_all p bytes ≡ true
