-- Moments as a clock gives them.
use Rattle.std.specs.Prelude.{ℕ, List, [], ◌∷◌}

-- the moment that is given next: the first, or 0 where there is none
abbrev pub moment_of : List ℕ → ℕ
moment_of [] = 0
moment_of (moment ∷ moments) = moment

-- the moments after it: the last one stays
abbrev pub moments_after : List ℕ → List ℕ
moments_after [] = []
moments_after (moment ∷ []) = moment ∷ []
moments_after (moment ∷ next ∷ moments) = next ∷ moments
