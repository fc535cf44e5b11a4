-- The core's connections follow the reader's events.
use Rattle.std.proofs.Common.{◌≡◌, ℕ, ◌+◌, ◌<◌, ◌≤◌, ◌^◌, List, [], ◌∷◌, ◌++◌, length, Option, Some, None, inl, inr, ap, arith}
use Rattle.std.proofs.lemmas.List.{length-append}
use Rattle.sdb_arrivals.specs.Story.{Answer, Done, Full, Disk, NotAStore, OutOfMemory, Framed}
use Rattle.sdb_arrivals.specs.Story as story
use Rattle.sdb_arrivals.specs.Tables.{Connections, Turns}
use Rattle.sdb_core.specs.Causes.{CanCome}
use Rattle.sdb_script.specs.Events.{Event, Opened, Piece, Ended, Commit, Work}
use Rattle.sdb_script.specs.Fronts.{front, Whole}
use Rattle.sdb_script.specs.Lawful.{MayCome}
use Rattle.sdb_script.specs.Reading.{Reading, past_record}
use Rattle.sdb_script.specs.Spelled.{spelled}
use Rattle.sdb_script.proofs.Spelling.{whole-read}
use Rattle.sdb_script.proofs.Stays.{whole-sized}
use Rattle.sdb_replay.specs.Events.{happening}
use Rattle.sdb_replay.specs.Running.{Follows}
use Rattle.sdb_replay.proofs.RecordLemmas.{front-spelled}

may-happen : (t : Connections) (reading : Reading) (told : Event) → Follows t reading → reading.at ≤ 2 ^ 40 → MayCome reading.known told → CanCome (happening told) t
may-happen t reading (Opened conn) follows within may = omega (arith, follows.opened, may.1)
may-happen t reading (Piece conn moment bytes) follows within may = omega (arith, follows.bytes, within, may.4)
may-happen t reading (Ended conn) follows within may = tt
may-happen t reading Commit follows within may = tt
may-happen t reading Work follows within may = tt

-- the record at the front may happen to the core
pub can_happen : (t : Connections) (reading : Reading) (told : Event) (size : ℕ) → Follows t reading → reading.at ≤ 2 ^ 40
    → front reading.known reading.held ≡ Whole told size → CanCome (happening told) t
can_happen t reading told size follows within whole = may-happen t reading told follows within (whole-read reading.known reading.held told size whole).may

-- a piece's bytes are a part of its record
piece-sized : (conn moment : ℕ) (bytes : List ℕ) → length bytes ≤ length (spelled (Piece conn moment bytes))
unfolding spelled
piece-sized conn moment bytes = simp length-append (omega arith)

follows-opened : (t new : Connections) (reading : Reading) (conn size released : ℕ) (a : Answer) (came : List Framed) → Follows t reading
    → Turns (story.Opened conn) a released came t new → Follows new (past_record reading (Opened conn) size)
follows-opened t new reading conn size released Done came follows turns =
    let is = turns.2.1 in
    record { opened = omega (arith, ap (λ (x : Connections). x.last_opened) is); bytes = omega (arith, ap (λ (x : Connections). x.bytes_taken) is, follows.bytes) }
follows-opened t new reading conn size released Full came follows turns =
    let is = turns.2.1 in
    record { opened = omega (arith, ap (λ (x : Connections). x.last_opened) is); bytes = omega (arith, ap (λ (x : Connections). x.bytes_taken) is, follows.bytes) }
follows-opened t new reading conn size released Disk came follows turns = absurd turns.2
follows-opened t new reading conn size released (NotAStore file) came follows turns = absurd turns.2
follows-opened t new reading conn size released OutOfMemory came follows turns = absurd turns.2

-- nothing changed
follows-same : (t new : Connections) (reading : Reading) (told : Event) (size : ℕ) → Follows t reading → new ≡ t
    → reading.known.greatest ≤ (past_record reading told size).known.greatest → Follows new (past_record reading told size)
follows-same t new reading told size follows same greater = record {
  opened = omega (arith, ap (λ (x : Connections). x.last_opened) same, follows.opened, greater);
  bytes = omega (arith, ap (λ (x : Connections). x.bytes_taken) same, follows.bytes);
}

follows-piece : (t new : Connections) (reading : Reading) (conn moment : ℕ) (bytes : List ℕ) (size released : ℕ) (a : Answer) (came : List Framed) → Follows t reading
    → length bytes ≤ size → Turns (story.Piece conn moment bytes) a released came t new → Follows new (past_record reading (Piece conn moment bytes) size)
follows-piece t new reading conn moment bytes size released Done came follows sized turns = elim turns [
  | inl accepted ↦ record { opened = omega (arith, accepted.last_opened, follows.opened); bytes = omega (arith, accepted.bytes_taken, follows.bytes, sized) }
  | inr same ↦ follows-same t new reading (Piece conn moment bytes) size follows same.1.1 (omega arith)
]
follows-piece t new reading conn moment bytes size released OutOfMemory came follows sized turns = follows-same t new reading (Piece conn moment bytes) size follows turns.1 (omega arith)
follows-piece t new reading conn moment bytes size released Full came follows sized turns = absurd turns
follows-piece t new reading conn moment bytes size released Disk came follows sized turns = absurd turns
follows-piece t new reading conn moment bytes size released (NotAStore file) came follows sized turns = absurd turns

follows-ended : (t new : Connections) (reading : Reading) (conn size released : ℕ) (a : Answer) (came : List Framed) → Follows t reading
    → Turns (story.Ended conn) a released came t new → Follows new (past_record reading (Ended conn) size)
follows-ended t new reading conn size released a came follows turns = elim turns.1 [
  | inl closed ↦ record {
    opened = omega (arith, ap (λ (x : Connections). x.last_opened) closed.now, follows.opened);
    bytes = omega (arith, ap (λ (x : Connections). x.bytes_taken) closed.now, follows.bytes);
  }
  | inr same ↦ follows-same t new reading (Ended conn) size follows same.1 (omega arith)
]

-- the core follows the reader past a record
pub follows_more : (t new : Connections) (reading : Reading) (told : Event) (size released : ℕ) (a : Answer) (came : List Framed) → Follows t reading
    → front reading.known reading.held ≡ Whole told size → Turns (happening told) a released came t new → Follows new (past_record reading told size)
follows_more t new reading (Opened conn) size released a came follows whole turns = follows-opened t new reading conn size released a came follows turns
follows_more t new reading (Piece conn moment bytes) size released a came follows whole turns =
    follows-piece t new reading conn moment bytes size released a came follows
    (omega (arith, (front-spelled reading.known reading.held (Piece conn moment bytes) size whole).0, piece-sized conn moment bytes)) turns
follows_more t new reading (Ended conn) size released a came follows whole turns = follows-ended t new reading conn size released a came follows turns
follows_more t new reading Commit size released a came follows whole turns = follows-same t new reading Commit size follows turns.1 (omega arith)
follows_more t new reading Work size released a came follows whole turns = follows-same t new reading Work size follows turns.1 (omega arith)

-- a record has a byte at least
pub some_size : (reading : Reading) (told : Event) (size : ℕ) → front reading.known reading.held ≡ Whole told size → 0 < size
some_size reading told size whole = (whole-sized reading.known reading.held told size whole).0
