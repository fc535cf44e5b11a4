-- Patterns of `like` (SimpleDB Developer Guide, "Comparison Operators"): `%` stands for any run of bytes.
use Rattle.std.specs.Prelude.{◌≡◌, ℕ, Bool, true, false, ◌&&◌, ◌||◌, ◌==◌, List, [], ◌∷◌, ◌++◌, drop, if◌then◌else◌}
use Rattle.sdb_parse.specs.declared.letters.Letter.{Letter}
use Rattle.sdb_parse.specs.declared.letters.Letter.TheVariants as at

-- `\` before `%` or `\` makes it stand for itself
abbrev pub is_special : ℕ → Bool
is_special b = b == 37 || b == 92

-- a byte that no `\` stands before
abbrev pub unescaped : ℕ → Letter
unescaped b = if b == 37 then at.Run else at.Byte b

-- a `\` that makes the byte after it stand for itself
abbrev pub is_escaped : ℕ → List ℕ → Bool
is_escaped b [] = false
is_escaped b (c ∷ rest) = b == 92 && is_special c

-- the letters of a pattern: `\%` is `%`, `\\` is `\`, and any other `\` is itself
unfoldable pub letters : List ℕ → List Letter
letters [] = []
letters (b ∷ []) = unescaped b ∷ []
letters (b ∷ c ∷ rest) = if is_escaped b (c ∷ rest) then at.Byte c ∷ letters rest else unescaped b ∷ letters (c ∷ rest)

-- the plain parts between the `%` of a pattern: the first, and the others
unfoldable pub parts_of : List Letter → List ℕ × List (List ℕ)
parts_of [] = ([], [])
parts_of (at.Run ∷ ls) = ([], (parts_of ls).0 ∷ (parts_of ls).1)
parts_of (at.Byte b ∷ ls) = (b ∷ (parts_of ls).0, (parts_of ls).1)

-- the text is the first part, a run of bytes, the second part, and so on to the last
abbrev pub HasParts : List ℕ → List (List ℕ) → List ℕ → Type 0
HasParts first [] text = text ≡ first
HasParts first (next ∷ others) text =
    (run : List ℕ) × (rest : List ℕ) × (text ≡ first ++ (run ++ rest)) × HasParts next others rest

-- the text fits the pattern
abbrev pub IsLike : List ℕ → List ℕ → Type 0
IsLike pattern text = HasParts (parts_of (letters pattern)).0 (parts_of (letters pattern)).1 text

-- ---- the same as a test

-- the test holds of what is left of the text after some run of bytes
abbrev pub after_some_run : (List ℕ → Bool) → List ℕ → Bool
after_some_run test [] = test []
after_some_run test (b ∷ bs) = test (b ∷ bs) || after_some_run test bs

-- no bytes
abbrev pub is_nothing : List ℕ → Bool
is_nothing [] = true
is_nothing (b ∷ bs) = false

-- the text begins with that byte
abbrev pub begins_with : ℕ → List ℕ → Bool
begins_with b [] = false
begins_with b (c ∷ cs) = c == b

-- the test holds of what follows that byte
abbrev pub after_byte : ℕ → (List ℕ → Bool) → List ℕ → Bool
after_byte b test text = begins_with b text && test (drop 1 text)

-- whether the text is spelled by the letters
unfoldable pub has_letters : List Letter → List ℕ → Bool
has_letters [] = is_nothing
has_letters (at.Run ∷ ls) = after_some_run (has_letters ls)
has_letters (at.Byte b ∷ ls) = after_byte b (has_letters ls)

-- whether the text fits the pattern
abbrev pub is_like : List ℕ → List ℕ → Bool
is_like pattern text = has_letters (letters pattern) text
