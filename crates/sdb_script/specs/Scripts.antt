-- A script: the events that its bytes tell, and where it goes wrong.
use Rattle.std.specs.Prelude.{◌≡◌, ℕ, ◌+◌, ◌<◌, List, [], ◌∷◌, length, drop, Option, Some, None}
use Rattle.sdb_script.specs.Connections.{Connections, none_opened, after_event}
use Rattle.sdb_script.specs.Events.{Event}
use Rattle.sdb_script.specs.Fronts.{front, Whole, Wrong, Unjudged}

-- The bytes that follow events tell these events. Their first byte has the number `at` in the script. It ends well (`None`), or in the
-- record whose first byte has that number: one that is wrong, or one in which the bytes end.
pub data Tells : Connections → (at : ℕ) → List ℕ → List Event → Option ℕ → Type 0 where
  ends : (known : Connections) (at : ℕ) → Tells known at [] [] None
  goes_wrong : (known : Connections) (at : ℕ) (bytes : List ℕ) → front known bytes ≡ Wrong → Tells known at bytes [] (Some at)
  is_cut : (known : Connections) (at : ℕ) (bytes : List ℕ) → front known bytes ≡ Unjudged → 0 < length bytes → Tells known at bytes [] (Some at)
  goes_on : (known : Connections) (at : ℕ) (bytes : List ℕ) (event : Event) (size : ℕ) (events : List Event) (wrong : Option ℕ)
      → front known bytes ≡ Whole event size
      → Tells (after_event known event) (at + size) (drop size bytes) events wrong
      → Tells known at bytes (event ∷ events) wrong

-- a script: its events, and the number of the first byte of a record that is wrong or cut, where there is one
abbrev pub IsScript : List ℕ → List Event → Option ℕ → Type 0
IsScript bytes events wrong = Tells none_opened 0 bytes events wrong
