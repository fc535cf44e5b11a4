-- What holds of a server between its steps, for each story that its core stands for.
use Rattle.std.specs.Prelude.{◌≡◌, ◌⊎◌, ◌≤◌, ◌<◌, ◌+◌, ◌^◌, ℕ, Bool, true, false, List, [], ◌∷◌, length, map, Option, None, Some, ◌≢◌, IsTrue, Result, Ok, Err, OnOk}
use Rattle.sdb_arrivals.specs.Queues.{Sent}
use Rattle.sdb_arrivals.specs.Story.{Answer, Done, Full, Disk, NotAStore, OutOfMemory, Arrival, Event, Step, Commit, Ended, Work, answer_of}
use Rattle.sdb_core.specs.Kept.{View}
use Rattle.sdb_core.specs.Ledgers.{Opening, gives, in_hand, ledger, sent_by}
use Rattle.sdb_core.specs.Told.{RoseBy, StandsFor, faults_in, step_of}
use Rattle.sdb_disk.specs.Disk as disk
use Rattle.sdb_io.specs.Links as links
use Rattle.sdb_io.specs.declared.links.LinkEvent.{LinkEvent}
use Rattle.sdb_serve.specs.Acts.{Act, AreDue, Ends, IsDue, Phase, committing, does, has_come, is_lost, lost, over, phase, resting, story_of, taken, to_commit, waits_in}
use Rattle.sdb_serve.specs.Coming.{HaveCome, ReadClock}
use Rattle.sdb_serve.specs.Sending.{IsSent, answers, bytes_to, in_stage, is_closing, is_shut, lost_on}
use Rattle.sdb_serve.specs.Stepping.{to_do}
use Rattle.sdb_store.specs.Kept.{Ready}
use Rattle.sdb_arrivals.specs.Framing.{is_open}
use Rattle.sdb_status.specs.declared.status.Status.{Status}
use Rattle.sdb_status.specs.declared.status.Status.TheVariants as status

-- of connections whose state is told: what came, what was sent on each, and which are closed
pub record OnLinks (start now : links.State) (o : Opening) (acts : List Act) : Type 0 where
  pub come : HaveCome acts start.to_come now.to_come
  pub sent : (k : ℕ) → IsSent (is_lost k acts) (start.sent k) (now.sent k) (bytes_to k (answers o (story_of acts)))
  pub stage : (k : ℕ) → now.stage k ≡ in_stage (has_come k (story_of acts)) (is_shut k o acts) (start.stage k)
  pub port : now.port ≡ start.port

-- of any connections: no more are lost than the count of faults rose by; none that came has a number above the last;
-- one that didn't come has no answer; and one that is lost isn't open
pub record OfLinks (start now : links.State) (o : Opening) (acts : List Act) : Type 0 where
  pub told : now.told ≡ start.told
  pub counted : RoseBy (length (lost acts)) start.faults now.faults
  pub last : (k : ℕ) → has_come k (story_of acts) ≡ true → k ≤ now.last
  pub fresh : (k : ℕ) → has_come k (story_of acts) ≡ false
      → (is_lost k acts ≡ false) × (is_closing k (answers o (story_of acts)) ≡ false)
  pub up : (k : ℕ) → is_open k (story_of acts) ≡ true → is_lost k acts ≡ false

-- how the clock and the disk's count of faults began
pub record Begun : Type 0 where
  pub moments : Option (List ℕ)
  pub faults : ℕ

-- what holds after acts, where the links, the clock and the disk's count of faults began so
pub record Serving (o : Opening) (start : links.State) (first : Begun) (acts : List Act)
    (core : View) (disk_now : disk.State) (now : links.State) (moments : Option (List ℕ)) : Type 0 where
  pub stands : StandsFor core disk_now o (story_of acts)
  pub out : core.line.out ≡ []
  pub due : AreDue o acts
  pub clock : ReadClock acts first.moments moments
  pub faults : RoseBy (faults_in o (story_of acts)) first.faults disk_now.faults
  -- files that stood for accounts are never refused
  pub sure : (file : ℕ) → phase acts ≡ over (status.NotAStore file) → ⊥
  pub always : OfLinks start now o acts
  pub links : IsTrue start.told → OnLinks start now o acts

-- no answer is held and nothing waits
abbrev pub IsQuiet : Opening → List Act → Type 0
IsQuiet o acts = in_hand (ledger o (story_of acts)) ≡ []

-- all came on this connection
abbrev pub AreOf : ℕ → List Arrival → Type 0
AreOf c [] = Unit {0}
AreOf c (w ∷ ws) = (w.framed.conn ≡ c) × AreOf c ws

-- what is held or waits in a turn is of one connection, and it is known whether that one is lost
pub record IsOf (c : ℕ) (known : Option ℕ) (o : Opening) (acts : List Act) : Type 0 where
  pub all : AreOf c (in_hand (ledger o (story_of acts)))
  pub came : has_come c (story_of acts) ≡ true
  pub is : known ≡ lost_on c (is_lost c acts)

-- or nothing is held or waits
abbrev pub InTurn : ℕ → Option ℕ → Opening → List Act → Type 0
InTurn c known o acts = IsQuiet o acts ⊎ IsOf c known o acts

-- a Commit is due
abbrev pub CommitIsDue : Opening → List Act → Type 0
CommitIsDue o acts = (s : Step) → s.event ≡ Commit → IsDue (phase acts) (waits_in (ledger o (story_of acts))) (does s)

-- what a step that goes on leads to, or one that ends the server with a status
abbrev pub LeadsTo : {T : Type 0} → Phase → Result T Status → Phase → Type 0
LeadsTo going (Ok value) now = now ≡ going
LeadsTo going (Err found) now = now ≡ over found

-- the connection that is known to be lost after a Commit
abbrev pub KnownAfter : Result (Option ℕ) Status → (Option ℕ → Type 0) → Type 0
KnownAfter (Ok known) P = P known
KnownAfter (Err found) P = Unit {0}

-- after a Commit
pub record Committed (o : Opening) (start : links.State) (first : Begun) (acts : List Act) (c : ℕ) (result : Result (Option ℕ) Status)
    (core : View) (disk_now : disk.State) (now : links.State) (moments : Option (List ℕ)) : Type 0 where
  pub after : List Act
  pub serving : Serving o start first after core disk_now now moments
  pub turn : KnownAfter result (λ known. InTurn c known o after)
  pub phase : LeadsTo committing result (phase after)
  pub taken : taken after ≡ taken acts
  -- there is no more in hand; where something waited, there is less to do
  pub hand : length (in_hand (ledger o (story_of after))) ≤ length (in_hand (ledger o (story_of acts)))
  pub less : waits_in (ledger o (story_of acts)) ≡ true → OnOk result (to_do (ledger o (story_of after)) < to_do (ledger o (story_of acts)))

-- after what goes on until a phase
pub record Went (going : Phase) (more : ℕ) (o : Opening) (start : links.State) (first : Begun) (acts : List Act) (result : Result Unit Status)
    (core : View) (disk_now : disk.State) (now : links.State) (moments : Option (List ℕ)) : Type 0 where
  pub after : List Act
  pub serving : Serving o start first after core disk_now now moments
  pub phase : LeadsTo going result (phase after)
  pub quiet : OnOk result (IsQuiet o after)
  pub taken : taken after ≡ taken acts + more

-- the links gave the event last, with its bytes
pub record Gave (event : LinkEvent) (buf : List ℕ) (before now : links.State) : Type 0 where
  pub told : now.told ≡ before.told
  pub later : links.IsLater before.last event
  pub last : now.last ≡ links.last_after event before.last
  pub faults : before.faults ≤ now.faults
  pub comes : IsTrue before.told → links.Comes event buf before now

-- a connection that was opened is closed where 64 are live, by the answer; else nothing changes
abbrev pub Refuses : Answer → ℕ → links.State → links.State → Type 0
Refuses Full conn old new = links.Closes conn old new
Refuses Done conn old new = new ≡ old
Refuses Disk conn old new = new ≡ old
Refuses (NotAStore file) conn old new = new ≡ old
Refuses OutOfMemory conn old new = new ≡ old

-- more may come after an event, where it didn't end the server
abbrev pub goes_on : Result Unit Status → Result Bool Status
goes_on (Ok value) = Ok true
goes_on (Err found) = Err found

-- after a turn: the next one may come, or nothing comes any more, or the server ends with a status
abbrev pub TurnsInto : Result Bool Status → List Act → List Act → Type 0
TurnsInto (Ok true) acts after = (phase after ≡ resting) × (taken after ≡ taken acts + 1)
TurnsInto (Ok false) acts after = phase after ≡ over status.Done
TurnsInto (Err found) acts after = (phase after ≡ over found) ⊎ ((found ≡ status.LinkFault) × (after ≡ acts))

-- after a turn
pub record Turned (o : Opening) (start : links.State) (first : Begun) (acts : List Act) (result : Result Bool Status)
    (core : View) (disk_now : disk.State) (now : links.State) (moments : Option (List ℕ)) : Type 0 where
  pub after : List Act
  pub serving : Serving o start first after core disk_now now moments
  pub into : TurnsInto result acts after
  pub quiet : result ≡ Ok true → IsQuiet o after
  pub most : taken after ≤ taken acts + 1

-- A server: a story of its core, in which each act was due, so many events came at most, and which ends by its status. What
-- is told of links and clock is as the acts say.
pub record Served (status : Status) (turns : ℕ) (o : Opening) (start : links.State) (first : Begun)
    (core : View) (disk_now : disk.State) (now : links.State) (moments : Option (List ℕ)) : Type 0 where
  pub acts : List Act
  pub serving : Serving o start first acts core disk_now now moments
  pub ends : Ends status turns acts
  pub most : taken acts ≤ turns

-- a connection is ended, where it is lost now and wasn't before
abbrev pub MayEnd : Option ℕ → Option ℕ → (old new : View) → disk.State → Opening → List Step → Type 0
MayEnd known later old new disk_now o story =
    (((later ≡ known) ⊎ (later ≡ None)) × StandsFor new disk_now o story × (new.line.out ≡ old.line.out))
    ⊎ ((c : ℕ) × (answer : Answer) × (came : List Arrival) × (refused : List Bool) × (later ≡ Some c) × (later ≢ known)
    × StandsFor new disk_now o (step_of (Ended c) answer new.store disk_now came refused ∷ story) × (new.line.out ≡ old.line.out))

-- what steps keep whatever is told: the store is ready, no connection opens, and at most so many bytes come
pub record Steady (more : ℕ) (old new : View) (disk_now : disk.State) : Type 0 where
  pub ready : Ready new.store disk_now
  pub taken : new.table.bytes_taken ≤ old.table.bytes_taken + more
  pub last : new.table.last_opened ≡ old.table.last_opened

-- and of the links
pub record SteadyLinks (old new : links.State) : Type 0 where
  pub told : new.told ≡ old.told
  pub last : new.last ≡ old.last
  pub faults : old.faults ≤ new.faults
