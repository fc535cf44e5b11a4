-- What a step tells: of every ledger, and of every story.
use Rattle.std.specs.Prelude.{◌≡◌, ℕ, ◌+◌, ◌-◌, ◌≤◌, ◌^◌, Bool, true, false, IsTrue, min, List, [], ◌∷◌, ◌++◌, length, map, ◌⊎◌, ◌↔◌}
use Rattle.sdb_arrivals.specs.Connects.{Connects}
use Rattle.sdb_arrivals.specs.Framing.{AreMessages, Brings, live}
use Rattle.sdb_arrivals.specs.Queues.{Queues}
use Rattle.sdb_arrivals.specs.Reading.{AreRead}
use Rattle.sdb_arrivals.specs.Story.{Answer, Done, Full, Disk, NotAStore, OutOfMemory, Event, Opened, Piece, Ended, Commit, Work, Arrival, Step, brought}
use Rattle.sdb_arrivals.specs.Tables.{Turns}
use Rattle.sdb_base.specs.Causes.{Rose}
use Rattle.sdb_disk.specs.Disk.{State, LeavesOnly}
use Rattle.sdb_keys.specs.declared.keys.Key.{Key}
use Rattle.sdb_record.specs.Stands.{StandsFor as FilesStandFor}
use Rattle.sdb_store.specs.Kept.{Contents}
use Rattle.sdb_core.specs.Kept.{Holds, View}
use Rattle.sdb_core.specs.Ledgers.{Given, Ledger, Mark, Opening, Plain, Unavailable, allows, changes_in, count_released, gives, ledger, moves, sent_by}
use Rattle.sdb_core.specs.Prefix.{CrashPrefix, Stands, StandsAhead, moment_after}

-- the step that such an event, answer, store and disk are, with what came and what was refused for memory
abbrev pub step_of : Event → Answer → Contents → State → List Arrival → List Bool → Step
step_of e a store now came refused = record {
  event = e;
  answer = a;
  sound = store.sound;
  sequence = store.journal.sequence;
  moment = now.moment;
  came = came;
  refused = refused;
}

-- a step makes of a ledger what the definition says, releases what it says, and leaves meanwhile only files that
-- stand for what was durable before it or after it, or for what a commit leads to
pub record Makes (s : Step) (line new : Queues) (store : Contents) (before now : State) (o : Opening) (l : Ledger) : Type 0 where
  pub holds : Holds new store now o (moves s.event o s l)
  pub out : new.out ≡ line.out ++ map sent_by (gives s.event s.answer l)
  pub during : LeavesOnly before now (λ c. (Stands o l c ⊎ StandsAhead s.event o l c) ⊎ Stands o (moves s.event o s l) c)

-- how many of the arrivals are neither held nor wait
abbrev pub released_of : View → ℕ
released_of k = k.table.arrived - (length k.line.held + length k.line.waiting)

-- a step, exactly on the value: what came, what was refused for memory, what the table becomes; and of every ledger
pub record Steps (e : Event) (a : Answer) (old new : View) (before now : State) (first last : ℕ) : Type 0 where
  pub came : List Arrival
  pub refused : List Bool
  pub keys : new.keys ≡ old.keys
  pub are_read : AreRead old.keys came
  pub turns : Turns e a (released_of old) (map (λ (w : Arrival). w.framed) came) old.table new.table
  pub all : IsTrue before.told → (o : Opening) (l : Ledger) → Holds old.line old.store before o l
      → Makes (step_of e a new.store now came refused) old.line new.line new.store before now o l
  pub looks : IsTrue before.told → (o : Opening) (l : Ledger) → Holds old.line old.store before o l
      → last ≤ first + allows o (step_of e a new.store now came refused) l

-- ---- over a story

-- what came in each step is what its piece made whole, and is read by the keys; the store is sound exactly where the
-- ledger says so
pub record IsStep (o : Opening) (s : Step) (story : List Step) : Type 0 where
  pub brings : Brings s.event s.answer (brought s) story
  pub messages : AreMessages (s ∷ story)
  pub are_read : AreRead o.keys s.came
  pub sound : s.sound ≡ (ledger o (s ∷ story)).sound

-- the same of each step
abbrev pub AreSteps : Opening → List Step → Type 0
AreSteps o [] = Unit {0}
AreSteps o (s ∷ story) = IsStep o s story × AreSteps o story

-- a core and a disk stand for a story: the queues, the store and the table are those of the story, and whatever a
-- crash leaves, now or at any moment since the opening, is right
pub record StandsFor (k : View) (s : State) (o : Opening) (story : List Step) : Type 0 where
  pub keys : k.keys ≡ o.keys
  pub holds : Holds k.line k.store s o (ledger o story)
  pub connects : Connects (count_released o) k.table story
  pub steps : AreSteps o story
  pub moment : moment_after o story ≡ s.moment
  pub crash : CrashPrefix s o story

-- a core that was started stands for the empty story, over the accounts and the number for which the files stood
pub record Begins (keys : List Key) (k : View) (before now : State) : Type 0 where
  pub stood : FilesStandFor k.store.accounts k.store.journal.sequence before.seen
  pub stands : StandsFor k now (record { keys = keys; accounts = k.store.accounts; number = k.store.journal.sequence; moment = now.moment }) []

-- how many faults of the disk the answer of a commit tells, at least, by whether the store was sound
abbrev pub faults_of_commit : Bool → Answer → ℕ
faults_of_commit true Done = 0
faults_of_commit true Full = 1
faults_of_commit true Disk = 1
faults_of_commit true (NotAStore file) = 1
faults_of_commit true OutOfMemory = 1
faults_of_commit false Done = 0
faults_of_commit false Full = 0
faults_of_commit false Disk = 1
faults_of_commit false (NotAStore file) = 0
faults_of_commit false OutOfMemory = 0

-- and that of background work
abbrev pub faults_of_work : Answer → ℕ
faults_of_work Done = 0
faults_of_work Full = 0
faults_of_work Disk = 1
faults_of_work (NotAStore file) = 0
faults_of_work OutOfMemory = 0

-- and that of any event
abbrev pub faults_of : Bool → Event → Answer → ℕ
faults_of sound Commit answer = faults_of_commit sound answer
faults_of sound Work answer = faults_of_work answer
faults_of sound (Opened conn) answer = 0
faults_of sound (Piece conn moment bytes) answer = 0
faults_of sound (Ended conn) answer = 0

-- how many faults a story tells
abbrev pub faults_in : Opening → List Step → ℕ
faults_in o [] = 0
faults_in o (s ∷ story) = faults_in o story + faults_of (ledger o story).sound s.event s.answer

-- a count rose by so many, or stands at its greatest value
abbrev pub RoseBy : ℕ → ℕ → ℕ → Type 0
RoseBy n before now = min (before + n) (2 ^ 64 - 1) ≤ now

-- one of the answers has the mark
abbrev pub Marked : Mark → List Given → Type 0
Marked mark [] = ⊥
Marked mark (g ∷ given) = (g.mark ≡ mark) ⊎ Marked mark given

-- an opening is answered Full exactly where 64 connections are live, and nothing else is
abbrev pub IsFullWhere : Event → Answer → ℕ → Type 0
IsFullWhere (Opened conn) a live = (a ≡ Full) ↔ (64 ≤ live)
IsFullWhere (Piece conn moment bytes) a live = a ≡ Full → ⊥
IsFullWhere (Ended conn) a live = a ≡ Full → ⊥
IsFullWhere Commit a live = a ≡ Full → ⊥
IsFullWhere Work a live = a ≡ Full → ⊥

-- a step, of a story, in which a counter of items went from one number to another
pub record Told (e : Event) (a : Answer) (old new : View) (before now : State) (first last : ℕ) (o : Opening) (story : List Step) : Type 0 where
  pub came : List Arrival
  pub refused : List Bool
  pub stands : StandsFor new now o (step_of e a new.store now came refused ∷ story)
  pub out : new.line.out ≡ old.line.out ++ map sent_by (gives e a (ledger o story))
  pub during : LeavesOnly before now (λ c. (Stands o (ledger o story) c ⊎ StandsAhead e o (ledger o story) c)
      ⊎ Stands o (ledger o (step_of e a new.store now came refused ∷ story)) c)
  pub counted : RoseBy (faults_of (ledger o story).sound e a) before.faults now.faults
  pub unavailable : Marked Unavailable (gives e a (ledger o story)) → Rose before.faults now.faults
  -- a plain answer leaves only by a commit that has committed, or where nothing that is held changed anything
  pub plain : Marked Plain (gives e a (ledger o story)) → (a ≡ Done) ⊎ (changes_in (ledger o story).held ≡ [])
  -- items are looked at as often as is allowed for the arrivals that were executed, at most
  pub looks : last ≤ first + allows o (step_of e a new.store now came refused) (ledger o story)
  pub full : IsFullWhere e a (length (live (count_released o) story))
