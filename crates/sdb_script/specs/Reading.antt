-- Where a reader of a script stands, and what its calls answer.
use Rattle.std.specs.Prelude.{◌≡◌, ◌⊎◌, ℕ, ◌+◌, ◌<◌, List, [], ◌++◌, length, drop, Option, Some, None, Result, Ok, Err, ◌==◌, if◌then◌else◌}
use Rattle.std.specs.Io.KnownBytes.{IsAtEnd}
use Rattle.sdb_script.specs.Connections.{Connections, none_opened, after_event}
use Rattle.sdb_script.specs.Events.{Event, event_of}
use Rattle.sdb_script.specs.Fronts.{front, Whole, Wrong, Unjudged}
use Rattle.sdb_script.specs.declared.event.ScriptEvent.{ScriptEvent}
use Rattle.sdb_script.specs.declared.event.ScriptEvent.TheVariants.{End}
use Rattle.sdb_script.specs.declared.fault.ScriptFault.{ScriptFault}
use Rattle.sdb_script.specs.declared.fault.ScriptFault.TheVariants.{Bad, Read, TooLong, OutOfMemory}

-- a reader after some events
pub record Reading : Type 0 where
  -- the connections after these events
  pub known : Connections
  -- how many bytes the records of these events have
  pub at : ℕ
  -- what the source gave after them
  pub held : List ℕ

-- a reader begins with nothing
abbrev pub beginning : Reading
beginning = record { known = none_opened; at = 0; held = [] }

-- how many bytes the source gave
abbrev pub taken : Reading → ℕ
taken reading = reading.at + length reading.held

-- the source gave more
abbrev pub with_more : Reading → List ℕ → Reading
with_more reading given = record { known = reading.known; at = reading.at; held = reading.held ++ given }

-- an event more, whose record has so many bytes
abbrev pub past_record : Reading → Event → (size : ℕ) → Reading
past_record reading event size = record { known = after_event reading.known event; at = reading.at + size; held = drop size reading.held }

-- the script ends with the bytes held, and the source gave fewer bytes than the limit
abbrev pub IsLast : (limit : ℕ) → Reading → Option (List ℕ) → Type 0
IsLast limit reading rest = IsAtEnd rest × (taken reading < limit)

-- the record at the front of the bytes held is wrong, or the script ends in it
abbrev pub IsBad : (limit : ℕ) → Reading → Option (List ℕ) → Type 0
IsBad limit reading rest =
    (front reading.known reading.held ≡ Wrong)
    ⊎ ((front reading.known reading.held ≡ Unjudged) × (0 < length reading.held) × IsLast limit reading rest)

-- no record at the front of the bytes held can be judged yet
abbrev pub IsOpen : Reading → Type 0
IsOpen reading = front reading.known reading.held ≡ Unjudged

-- an event, or the end of the script
abbrev pub GivesEvent : (limit : ℕ) → Option Event → (read new : Reading) → Option (List ℕ) → Type 0
GivesEvent limit (Some event) read new rest = (size : ℕ) × (front read.known read.held ≡ Whole event size) × (new ≡ past_record read event size)
GivesEvent limit None read new rest = (read.held ≡ []) × IsLast limit read rest × (new ≡ read)

-- what a fault says
abbrev pub GivesFault : (limit : ℕ) → ScriptFault → Reading → Option (List ℕ) → Type 0
GivesFault limit (Bad at) read rest = (at ≡ read.at) × IsBad limit read rest
GivesFault limit Read read rest = IsOpen read × (taken read < limit)
GivesFault limit TooLong read rest = IsOpen read × (taken read ≡ limit)
GivesFault limit OutOfMemory read rest = Unit {0}

-- What is answered by a reader that stands so once the source gave all that it gave in the call, and how the reader stands then.
-- `rest` is what the source has left.
abbrev pub Gives : (limit : ℕ) → Result ScriptEvent ScriptFault → (read new : Reading) → Option (List ℕ) → Type 0
Gives limit (Ok event) read new rest = GivesEvent limit (event_of event) read new rest
Gives limit (Err fault) read new rest = GivesFault limit fault read rest × (new ≡ read)

-- what one read that failed says
abbrev pub IsReadFault : (limit : ℕ) → Reading → ScriptFault → Type 0
IsReadFault limit reading (Bad at) = ⊥
IsReadFault limit reading Read = taken reading < limit
IsReadFault limit reading TooLong = taken reading ≡ limit
IsReadFault limit reading OutOfMemory = Unit {0}

-- what is answered where the input is at its end
abbrev pub at_end : Reading → Result ScriptEvent ScriptFault
at_end reading = if length reading.held == 0 then Ok End else Err (Bad reading.at)
