-- What is known of real connections: the number of the last one, and how often they failed. Nothing of what comes or
-- was sent.
use Rattle.std.specs.Prelude.{◌≡◌, ◌<◌, ◌≤◌, ℕ, false, [], Option, Some, None}
use Rattle.sdb_io.specs.declared.links.LinkEvent.{LinkEvent}
use Rattle.sdb_io.specs.declared.links.LinkEvent.TheVariants.{Opened, Piece, Ended, Closed}
use Rattle.sdb_io.specs.Links.{State, unopened, IsWithin, IsLater, last_after}
use Rattle.sdb_net.specs.declared.connections.Connections.{Connections}
use Rattle.sdb_net.specs.declared.socket.Arrived.{Arrived}
use Rattle.sdb_net.specs.declared.socket.Arrived.TheVariants.{Bytes, Nothing, End}
use Rattle.sdb_net.specs.Connections.{IsIdlest}

-- the state of connections that tell nothing but that
abbrev pub untold : ℕ → ℕ → State
untold last faults = record {
  told = false;
  port = None;
  to_come = [];
  sent = λ k. [];
  stage = λ k. unopened;
  last = last;
  faults = faults;
}

-- what a turn gives, with room for so many bytes: an event that follows the last number, or nothing
abbrev pub GivesEvent : ℕ → ℕ → ℕ → Option LinkEvent → Type 0
GivesEvent room last next None = next ≡ last
GivesEvent room last next (Some event) = IsWithin room event × IsLater last event × (next ≡ last_after event last)

-- a read gave 1 to so many bytes, none yet, or the end
abbrev pub HasArrived : ℕ → Arrived → Type 0
HasArrived room (Bytes n) = (0 < n) × (n ≤ room)
HasArrived room Nothing = Unit {0}
HasArrived room End = Unit {0}

-- the end of a connection that has been idle longest
abbrev pub EndsIdlest : {S : Type 0} → Connections S → LinkEvent → Type 0
EndsIdlest connections (Opened c) = ⊥
EndsIdlest connections (Piece c n) = ⊥
EndsIdlest connections (Ended c) = IsIdlest connections c
EndsIdlest connections Closed = ⊥

-- a connection that ends is the one that is closed at the next call
abbrev pub EndsNext : Option ℕ → LinkEvent → Type 0
EndsNext ended (Opened c) = Unit {0}
EndsNext ended (Piece c n) = Unit {0}
EndsNext ended (Ended c) = ended ≡ Some c
EndsNext ended Closed = Unit {0}
