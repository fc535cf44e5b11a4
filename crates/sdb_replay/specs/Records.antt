-- Which events an input gave: their records stand at the front of its bytes.
use Rattle.std.specs.Prelude.{◌≡◌, ◌⊎◌, ℕ, ◌<◌, ◌^◌, List, [], ◌∷◌, ◌++◌, length, None, Some}
use Rattle.std.specs.declared.option.Option.{Option}
use Rattle.std.specs.Io.KnownBytes.{IsAtEnd}
use Rattle.sdb_script.specs.Connections.{Connections, none_opened, after_event}
use Rattle.sdb_script.specs.Events.{Event}
use Rattle.sdb_script.specs.Fronts.{front, Unjudged}
use Rattle.sdb_script.specs.Lawful.{MayComeInTurn}
use Rattle.sdb_script.specs.Reading.{Reading}
use Rattle.sdb_script.specs.Scripts.{IsScript}
use Rattle.sdb_script.specs.Spelled.{script_of}

-- an input has fewer bytes than this
abbrev pub most_input : ℕ
most_input = 2 ^ 40

-- the connections after events
abbrev pub known_after : Connections → List Event → Connections
known_after known [] = known
known_after known (event ∷ events) = known_after (after_event known event) events

-- the bytes begin with the records of these events, and these follow
pub record Begins (given : List ℕ) (events : List Event) (held : List ℕ) : Type 0 where
  pub may_come : MayComeInTurn none_opened events
  pub bytes : given ≡ script_of events ++ held

-- the bytes begin with the records of these events
abbrev pub BeginsWith : List ℕ → List Event → Type 0
BeginsWith given events = (held : List ℕ) × Begins given events held

-- no further record can be judged by the bytes so far
abbrev pub IsUnjudged : List ℕ → List Event → Type 0
IsUnjudged given events = (held : List ℕ) × Begins given events held × (front (known_after none_opened events) held ≡ Unjudged)

-- a script of these events ends here
abbrev pub EndsHere : Option (List ℕ) → List ℕ → List Event → Type 0
EndsHere rest given events = IsAtEnd rest × (length given < most_input) × IsScript given events None

-- after these events the script goes wrong at this byte: whatever is still to come, or as the input ends
abbrev pub GoesWrong : Option (List ℕ) → List ℕ → List Event → ℕ → Type 0
GoesWrong rest given events at =
    ((more : List ℕ) → IsScript (given ++ more) events (Some at)) ⊎ (IsAtEnd rest × (length given < most_input) × IsScript given events (Some at))

-- a reader gave these events, and the source their records and what the reader holds
pub record HasRead (reading : Reading) (given : List ℕ) (events : List Event) : Type 0 where
  pub known : reading.known ≡ known_after none_opened events
  pub at : reading.at ≡ length (script_of events)
  pub begins : Begins given events reading.held
