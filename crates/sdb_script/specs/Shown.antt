-- What the code says of a front, as contracts see it.
use Rattle.std.specs.Prelude.{ℕ, ◌≤◌, List, length, Option, Some}
use Rattle.std.specs.Option.{option_map}
use Rattle.sdb_script.specs.Events.{event_of}
use Rattle.sdb_script.specs.Fronts as fronts
use Rattle.sdb_script.specs.declared.front.Front.{Front}
use Rattle.sdb_script.specs.declared.front.Front.TheVariants.{Whole, Wrong, Unjudged}

-- the front that is shown; a whole record has an event, so there is one
abbrev pub shown_front : Front → Option fronts.Front
shown_front (Whole event size) = option_map (λ told. fronts.Whole told size) (event_of event)
shown_front Wrong = Some fronts.Wrong
shown_front Unjudged = Some fronts.Unjudged

-- bytes that can't be judged are so few
abbrev pub IsShort : (most : ℕ) → List ℕ → Front → Type 0
IsShort most bytes (Whole event size) = Unit {0}
IsShort most bytes Wrong = Unit {0}
IsShort most bytes Unjudged = length bytes ≤ most

-- a record has no more bytes than there are
abbrev pub IsWithin : (many : ℕ) → Front → Type 0
IsWithin many (Whole event size) = size ≤ many
IsWithin many Wrong = Unit {0}
IsWithin many Unjudged = Unit {0}
