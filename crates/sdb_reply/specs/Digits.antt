-- Numbers in a fixed number of digits.
use Rattle.std.specs.Prelude.{ℕ, zero, suc, ◌+◌, ◌/◌, ◌%◌, List, [], ◌∷◌, ◌++◌, nat_lt, if◌then◌else◌}

-- `0` to `9`, then `a` to `f`
abbrev pub digit : ℕ → ℕ
digit n = if nat_lt n 10 then 48 + n else 87 + n

-- the last `width` digits of n in a base, the highest first
unfoldable pub padded : (base width n : ℕ) → List ℕ
padded base zero n = []
padded base (suc width) n = padded base width (n / base) ++ digit (n % base) ∷ []
