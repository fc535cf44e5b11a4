-- The events of a script.
use Rattle.std.specs.Prelude.{ℕ, List, Option, Some, None}
use Rattle.sdb_script.specs.declared.event.ScriptEvent.{ScriptEvent}
use Rattle.sdb_script.specs.declared.event.ScriptEvent.TheVariants as variant

-- what happens: a connection is opened, bytes come on it at a moment, it ends; a commit; a turn of background work
pub data Event : Type 0 where
  Opened : (conn : ℕ) → Event
  Piece : (conn moment : ℕ) → (bytes : List ℕ) → Event
  Ended : (conn : ℕ) → Event
  Commit : Event
  Work : Event

-- the event that an answer of the reader shows; the end of the script is none
abbrev pub event_of : ScriptEvent → Option Event
event_of (variant.Opened conn) = Some (Opened conn)
event_of (variant.Piece conn moment bytes) = Some (Piece conn moment bytes.bytes)
event_of (variant.Ended conn) = Some (Ended conn)
event_of variant.Commit = Some Commit
event_of variant.Work = Some Work
event_of variant.End = None
