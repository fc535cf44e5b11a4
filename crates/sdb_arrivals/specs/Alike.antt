-- Stories in which the same happened and was answered alike.
use Rattle.std.specs.Prelude.{◌≡◌, List, [], ◌∷◌}
use Rattle.sdb_keys.specs.declared.keys.Key.{Key}
use Rattle.sdb_arrivals.specs.Framing.{AreFramed}
use Rattle.sdb_arrivals.specs.Reading.{AreRead}
use Rattle.sdb_arrivals.specs.Story.{Step}

-- the same happened in two stories, step by step, and was answered alike
abbrev pub AreAlike : List Step → List Step → Type 0
AreAlike [] [] = Unit {0}
AreAlike [] (t ∷ other) = ⊥
AreAlike (s ∷ story) [] = ⊥
AreAlike (s ∷ story) (t ∷ other) = (s.event ≡ t.event) × (s.answer ≡ t.answer) × AreAlike story other

-- and the same arrivals came in each step
abbrev pub AreSame : List Step → List Step → Type 0
AreSame [] [] = Unit {0}
AreSame [] (t ∷ other) = ⊥
AreSame (s ∷ story) [] = ⊥
AreSame (s ∷ story) (t ∷ other) = (s.event ≡ t.event) × (s.answer ≡ t.answer) × (s.came ≡ t.came) × AreSame story other

-- of each arrival of a story it is what is read of it
abbrev pub AreReadIn : List Key → List Step → Type 0
AreReadIn keys [] = Unit {0}
AreReadIn keys (s ∷ story) = AreRead keys s.came × AreReadIn keys story

-- in stories alike, under the same keys, the same arrives
abbrev pub AlikeAreSame : Type 0
AlikeAreSame = (keys : List Key) (story other : List Step) → AreAlike story other → AreFramed story → AreFramed other
    → AreReadIn keys story → AreReadIn keys other → AreSame story other
