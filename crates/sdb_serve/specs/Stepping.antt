-- What a step does to a core's numbers, and how much a core has to do.
use Rattle.std.specs.Prelude.{◌≡◌, ◌≢◌, ◌≤◌, ◌+◌, ◌*◌, ℕ, Bool, true, false, not, ◌||◌, ◌==◌, List, [], ◌∷◌, ◌++◌, length, map}
use Rattle.sdb_arrivals.specs.Queues.{Queues}
use Rattle.sdb_arrivals.specs.Story.{Answer, NotAStore, Arrival, Event, Step, Opened, Piece, Ended, Commit, Work}
use Rattle.sdb_arrivals.specs.Tables.{Connections}
use Rattle.sdb_core.specs.Kept.{View}
use Rattle.sdb_core.specs.Ledgers.{Executed, Ledger, Opening, gives, in_hand, ledger, sent_by}
use Rattle.sdb_core.specs.Told.{RoseBy, StandsFor, faults_of, step_of}
use Rattle.sdb_disk.specs.Disk.{State}

-- the last number that was to be opened, after an event
abbrev pub opened_with : Event → ℕ → ℕ
opened_with (Opened c) last = c
opened_with (Piece c moment bytes) last = last
opened_with (Ended c) last = last
opened_with Commit last = last
opened_with Work last = last

-- how many bytes an event brings at most
abbrev pub size_of : Event → ℕ
size_of (Opened c) = 0
size_of (Piece c moment bytes) = length bytes
size_of (Ended c) = 0
size_of Commit = 0
size_of Work = 0

-- an event counts its number and its bytes
pub record Counts (e : Event) (old new : Connections) : Type 0 where
  pub last : new.last_opened ≡ opened_with e old.last_opened
  pub taken : new.bytes_taken ≤ old.bytes_taken + size_of e

-- an answer is held or a request waits
abbrev pub waits : Queues → Bool
waits q = not (length q.held == 0) || not (length q.waiting == 0)

-- a core whose released answers were taken out
abbrev pub emptied : View → View
emptied core = record core { line = record core.line { out = [] } }

-- where nothing is held, a Commit makes the store sound or fills
abbrev pub rank : List Executed → Bool → ℕ
rank [] true = 2
rank [] false = 1
rank (x ∷ held) sound = 0

-- how much there is to do: each Commit leaves less
abbrev pub to_do : Ledger → ℕ
to_do l = 3 * length (in_hand l) + rank l.held l.sound

-- a step of a story: the core and the disk stand for the story with it, and what it releases comes out
pub record Stepped (e : Event) (a : Answer) (old new : View) (before now : State) (o : Opening) (story : List Step) : Type 0 where
  pub came : List Arrival
  pub refused : List Bool
  pub stands : StandsFor new now o (step_of e a new.store now came refused ∷ story)
  pub out : new.line.out ≡ old.line.out ++ map sent_by (gives e a (ledger o story))
  pub counted : RoseBy (faults_of (ledger o story).sound e a) before.faults now.faults
  pub sure : (file : ℕ) → a ≢ NotAStore file
