-- What a line and a table know of their memory and their numbers.
use Rattle.std.specs.Prelude.{◌≡◌, ℕ, ◌+◌, ◌<◌, ◌≤◌, ◌^◌, true, false, List, [], ◌∷◌, ◌++◌, length, map, slice_index_or, slice_set}
use Rattle.std.specs.List.{AllByRecursion}
use Rattle.sdb_http.specs.Feeds.{HasNone, Reads, State}
use Rattle.sdb_http.specs.Messages.{Reply, is_last}
use Rattle.sdb_keys.specs.declared.keys.Key.{Key}
use Rattle.sdb_arrivals.specs.declared.entry.Counts.{Counts}
use Rattle.sdb_arrivals.specs.Framing.{arrivals}
use Rattle.sdb_arrivals.specs.Queues.{Queues, in_line, with_waiting}
use Rattle.sdb_arrivals.specs.Reading.{AreRead, IsReadOf}
use Rattle.sdb_arrivals.specs.declared.read.Read.{Read}
use Rattle.sdb_arrivals.specs.Story.{Arrival, Done, Piece}
use Rattle.sdb_arrivals.specs.Tables.{Accepts, Alters, Connection, Connections, InOrder, Turns, closed}

-- the places of a line, by the lengths of its three queues and two capacities: 64 answers can be held, at most so
-- many are, and each arrival has its place among the released answers
pub record HasPlaces (held held_places waiting out out_places : ℕ) : Type 0 where
  pub most : 64 ≤ held_places
  pub few : held ≤ 64
  pub places : out + held + waiting ≤ out_places

-- the line with more arrivals behind those that wait
pub record GrowsBy (keys : List Key) (old new : Queues) (came : List Arrival) : Type 0 where
  pub are_read : AreRead keys came
  pub is : new ≡ with_waiting old (map in_line came)

-- what takes have made of a feed, of the counts of arrivals and of the line
pub record TakesOff (keys : List Key) (conn moment : ℕ) (start now : State) (before after : Counts) (old new : Queues) : Type 0 where
  pub replies : List Reply
  pub came : List Arrival
  pub framed : map (λ (w : Arrival). w.framed) came ≡ arrivals conn moment before.number replies
  pub grows : GrowsBy keys old new came
  pub reads : (earlier : List ℕ) (given : List Reply) → Reads earlier given start.held false → Reads earlier (given ++ replies) now.held now.ended
  pub size : length replies + length now.held ≤ length start.held
  pub number : after.number ≡ before.number + length replies
  pub arrived : after.arrived ≡ before.arrived + length replies

-- the same, where nothing more is taken
pub record TakesAll (keys : List Key) (conn moment : ℕ) (start now : State) (before after : Counts) (old new : Queues) : Type 0 where
  pub off : TakesOff keys conn moment start now before after old new
  pub none : now.ended ≡ false → HasNone now.held

-- an arrival that the line got
pub record HasArrived (keys : List Key) (conn number moment : ℕ) (reply : Reply) (old new : Queues) : Type 0 where
  pub read : Read
  pub is_read : IsReadOf keys moment reply read
  pub is : new ≡ with_waiting old (record { conn = conn; number = number; moment = moment; close = is_last reply; read = read } ∷ [])

-- a connection that took a piece in, and the line that got what it made whole
pub record HasAccepted (keys : List Key) (moment : ℕ) (bytes : List ℕ) (first now : ℕ) (before after : Connection) (old new : Queues) : Type 0 where
  pub came : List Arrival
  pub grows : GrowsBy keys old new came
  pub accepts : Accepts moment bytes (map (λ (w : Arrival). w.framed) came) before after first now

-- how many bytes the connections hold
abbrev pub held_sum : List Connection → ℕ
held_sum [] = 0
held_sum (e ∷ entries) = length e.held + held_sum entries

-- a table of these parts
abbrev pub table_of : List Connection → ℕ → ℕ → ℕ → Connections
table_of entries last_opened bytes_taken arrived =
    record { entries = entries; last_opened = last_opened; bytes_taken = bytes_taken; arrived = arrived }

-- what is true of every table: its connections stand in order; its arrivals and the bytes that it holds are at
-- most as many as the bytes that came, which are below 2^48; no connection has more arrivals than there were; and
-- it has the places of 64 connections
pub record IsTable (t : Connections) (places : ℕ) : Type 0 where
  pub order : InOrder t
  pub sized : t.arrived + held_sum t.entries ≤ t.bytes_taken
  pub bounded : t.bytes_taken < 2 ^ 48
  pub numbers : AllByRecursion (λ (e : Connection). e.number ≤ t.arrived) t.entries
  pub room : 64 ≤ places

-- the connection is open and stands at this place
pub record IsUpAt (conn : ℕ) (entries : List Connection) (at : ℕ) : Type 0 where
  pub entry : Connection
  pub within : at < length entries
  pub is : slice_index_or entries at entry ≡ entry
  pub same : entry.conn ≡ conn
  pub up : entry.up ≡ true

-- a connection that took a piece in stands in its place
pub record SetsAccepted (keys : List Key) (conn moment : ℕ) (bytes : List ℕ) (first now : ℕ) (entries next : List Connection) (old new : Queues) : Type 0 where
  pub entry : Connection
  pub after : Connection
  pub alters : Alters conn entry after entries next
  pub accepts : HasAccepted keys moment bytes first now entry after old new

-- the connection at a place is closed
pub record ClosesAt (at : ℕ) (entries next : List Connection) : Type 0 where
  pub entry : Connection
  pub is : slice_index_or entries at entry ≡ entry
  pub set : next ≡ slice_set entries at (closed entry)

-- a piece was taken in: what came was read, stands at the end of the line, and changed the table
pub record Pieced (keys : List Key) (conn moment : ℕ) (bytes : List ℕ) (before after : Queues) (old new : Connections) : Type 0 where
  pub came : List Arrival
  pub grows : GrowsBy keys before after came
  pub turns : Turns (Piece conn moment bytes) Done 0 (map (λ (w : Arrival). w.framed) came) old new
