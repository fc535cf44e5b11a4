-- The lines of an input.
use Rattle.std.specs.Prelude.{ℕ, ◌+◌, ◌<◌, List, [], ◌∷◌, ◌++◌, ◌==◌, ◌⊎◌, length, replicate, not, IsTrue, if◌then◌else◌, ◌≡◌}
use Rattle.std.specs.List.{slice_split, list_all}

-- all parts but the last
abbrev pub but_last : List (List ℕ) → List (List ℕ)
but_last [] = []
but_last (part ∷ []) = []
but_last (part ∷ next ∷ parts) = part ∷ but_last (next ∷ parts)

-- all parts, but for an empty last one
abbrev pub but_empty_last : List (List ℕ) → List (List ℕ)
but_empty_last [] = []
but_empty_last (part ∷ []) = if length part == 0 then [] else part ∷ []
but_empty_last (part ∷ next ∷ parts) = part ∷ but_empty_last (next ∷ parts)

-- the lines that end with an LF
abbrev pub whole_lines : List ℕ → List (List ℕ)
whole_lines bytes = but_last (slice_split (λ b. b == 10) bytes)

-- all lines: the last one needs no LF where it isn't empty
abbrev pub lines_of : List ℕ → List (List ℕ)
lines_of bytes = but_empty_last (slice_split (λ b. b == 10) bytes)

-- no LF stands in it
abbrev pub IsOneLine : List ℕ → Type 0
IsOneLine line = IsTrue (list_all (λ b. not (b == 10)) line)

-- a way to cut an input into lines: it takes off the first line at the first LF, and takes either any last line that isn't empty or none
pub record CutsLines (cut : List ℕ → List (List ℕ)) : Type 0 where
  pub first : (line rest : List ℕ) → IsOneLine line → cut (line ++ 10 ∷ rest) ≡ line ∷ cut rest
  pub last : ((line : List ℕ) → IsOneLine line → 0 < length line → cut line ≡ line ∷ []) ⊎ ((line : List ℕ) → IsOneLine line → cut line ≡ [])

-- a line of more bytes than this is too long
abbrev pub most_line : ℕ
most_line = 1048576

-- lines that are answered alike: they are the same, or both are too long
abbrev pub Alike : List ℕ → List ℕ → Type 0
Alike one other = (one ≡ other) ⊎ ((most_line < length one) × (most_line < length other))

-- a line of that length
unfoldable pub zeros : ℕ → List ℕ
zeros n = replicate n 0

-- what stands for every line that is too long
unfoldable pub long_line : List ℕ
long_line = zeros (most_line + 1)
