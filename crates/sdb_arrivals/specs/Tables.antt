-- The table of connections as contracts see it, and what an event makes of it.
use Rattle.std.specs.Prelude.{◌≡◌, ℕ, ◌+◌, ◌<◌, ◌≤◌, Bool, true, false, not, nat_lt, ◌&&◌, ◌||◌, ◌==◌, List, [], ◌∷◌, ◌++◌, length, map, filter, ◌⊎◌}
use Rattle.std.specs.List.{AllByRecursion, list_any}
use Rattle.sdb_http.specs.Feeds.{HasNone, Reads}
use Rattle.sdb_http.specs.Messages.{Reply}
use Rattle.sdb_arrivals.specs.Framing.{arrivals}
use Rattle.sdb_arrivals.specs.Story.{Answer, Done, Full, Disk, NotAStore, OutOfMemory, Event, Opened, Piece, Ended, Commit, Work, Framed}

-- a connection in the table: whether it is open; the bytes that it holds, of no whole request; how many arrivals
-- there were of it; and how many there were in all with its last
pub record Connection : Type 0 where
  pub conn : ℕ
  pub up : Bool
  pub held : List ℕ
  pub number : ℕ
  pub last : ℕ

-- the table: its connections, by rising numbers; the last number that was opened; how many bytes came on open
-- connections; and how many arrivals there were
pub record Connections : Type 0 where
  pub entries : List Connection
  pub last_opened : ℕ
  pub bytes_taken : ℕ
  pub arrived : ℕ

-- no connections
abbrev pub no_connections : Connections
no_connections = record { entries = []; last_opened = 0; bytes_taken = 0; arrived = 0 }

-- an entry is that of a connection, and it is open
abbrev pub is_up_as : ℕ → Connection → Bool
is_up_as conn e = e.conn == conn && e.up

-- the connection is open
abbrev pub open_in : ℕ → List Connection → Bool
open_in conn entries = list_any (is_up_as conn) entries

-- the connection is live, where so many arrivals are released
abbrev pub stays : ℕ → Connection → Bool
stays released e = e.up || nat_lt released e.last

-- the numbers of the connections
abbrev pub conns_of : List Connection → List ℕ
conns_of entries = map (λ (e : Connection). e.conn) entries

-- a connection that was just opened
abbrev pub fresh : ℕ → Connection
fresh conn = record { conn = conn; up = true; held = []; number = 0; last = 0 }

-- a connection after its end: its unfinished bytes go
abbrev pub closed : Connection → Connection
closed e = record { conn = e.conn; up = false; held = []; number = e.number; last = e.last }

-- one open connection changes, and no other
pub record Alters (conn : ℕ) (entry after : Connection) (old new : List Connection) : Type 0 where
  pub front : List Connection
  pub back : List Connection
  pub was : old ≡ front ++ entry ∷ back
  pub now : new ≡ front ++ after ∷ back
  pub same : entry.conn ≡ conn
  pub up : entry.up ≡ true

-- how many arrivals there are with the last of these
abbrev pub last_by : List Reply → ℕ → ℕ → ℕ
last_by [] first last = last
last_by (reply ∷ replies) first last = first + length (reply ∷ replies)

-- a connection reads bytes: they have these replies, whatever was read before, and nothing whole is left
pub record Accepts (moment : ℕ) (bytes : List ℕ) (came : List Framed) (before after : Connection) (first now : ℕ) : Type 0 where
  pub replies : List Reply
  pub comes : came ≡ arrivals before.conn moment before.number replies
  pub reads : (earlier : List ℕ) (given : List Reply) → Reads earlier given before.held false
      → Reads (earlier ++ bytes) (given ++ replies) after.held (not after.up)
  pub none : after.up ≡ true → HasNone after.held
  pub size : length replies + length after.held ≤ length before.held + length bytes
  pub conn : after.conn ≡ before.conn
  pub number : after.number ≡ before.number + length replies
  pub last : after.last ≡ last_by replies first before.last
  pub arrived : now ≡ first + length replies

-- a piece of an open connection
pub record Accepted (conn moment : ℕ) (bytes : List ℕ) (came : List Framed) (old new : Connections) : Type 0 where
  pub entry : Connection
  pub after : Connection
  pub alters : Alters conn entry after old.entries new.entries
  pub accepts : Accepts moment bytes came entry after old.arrived new.arrived
  pub last_opened : new.last_opened ≡ old.last_opened
  pub bytes_taken : new.bytes_taken ≡ old.bytes_taken + length bytes

-- an end of an open connection
pub record Closed (conn : ℕ) (old new : Connections) : Type 0 where
  pub entry : Connection
  pub entries : List Connection
  pub alters : Alters conn entry (closed entry) old.entries entries
  pub now : new ≡ record { entries = entries; last_opened = old.last_opened; bytes_taken = old.bytes_taken; arrived = old.arrived }

-- numbers that rise, from above `least` on
abbrev pub RiseAbove : ℕ → List ℕ → Type 0
RiseAbove least [] = Unit {0}
RiseAbove least (c ∷ conns) = (least < c) × RiseAbove c conns

-- the connections stand by rising numbers, up to the last that was opened
pub record InOrder (t : Connections) : Type 0 where
  pub rising : RiseAbove 0 (conns_of t.entries)
  pub within : AllByRecursion (λ (e : Connection). e.conn ≤ t.last_opened) t.entries

-- the table without the connections that aren't live
abbrev pub swept : ℕ → List Connection → List Connection
swept released entries = filter (stays released) entries

-- the table with these entries, where a number was to be opened
abbrev pub with_entries : ℕ → List Connection → Connections → Connections
with_entries conn entries t = record { entries = entries; last_opened = conn; bytes_taken = t.bytes_taken; arrived = t.arrived }

-- nothing came, and nothing changes
abbrev pub Stands : List Framed → Connections → Connections → Type 0
Stands came old new = (came ≡ []) × (new ≡ old)

-- a number is opened where fewer than 64 connections are live, and else it is only noted
abbrev pub OpensAs : Answer → ℕ → ℕ → Connections → Connections → Type 0
OpensAs Done conn released old new =
    (length (swept released old.entries) < 64) × (new ≡ with_entries conn (swept released old.entries ++ fresh conn ∷ []) old)
OpensAs Full conn released old new =
    (64 ≤ length (swept released old.entries)) × (new ≡ with_entries conn (swept released old.entries) old)
OpensAs Disk conn released old new = ⊥
OpensAs (NotAStore file) conn released old new = ⊥
OpensAs OutOfMemory conn released old new = ⊥

-- a piece is taken where its connection is open, and else it changes nothing; without memory it changes nothing
abbrev pub TakesAs : Answer → ℕ → ℕ → List ℕ → List Framed → Connections → Connections → Type 0
TakesAs Done conn moment bytes came old new =
    Accepted conn moment bytes came old new ⊎ ((open_in conn old.entries ≡ false) × Stands came old new)
TakesAs OutOfMemory conn moment bytes came old new = Stands came old new
TakesAs Full conn moment bytes came old new = ⊥
TakesAs Disk conn moment bytes came old new = ⊥
TakesAs (NotAStore file) conn moment bytes came old new = ⊥

-- an event's effect on the table, with what it brought, where so many arrivals are released before it
abbrev pub Turns : Event → Answer → ℕ → List Framed → Connections → Connections → Type 0
Turns (Opened c) answer released came old new = (came ≡ []) × (old.last_opened < c) × OpensAs answer c released old new
Turns (Piece c moment bytes) answer released came old new = TakesAs answer c moment bytes came old new
Turns (Ended c) answer released came old new =
    (came ≡ []) × (Closed c old new ⊎ ((open_in c old.entries ≡ false) × (new ≡ old)))
Turns Commit answer released came old new = Stands came old new
Turns Work answer released came old new = Stands came old new
