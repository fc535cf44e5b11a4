-- What a server does: one act a step of its core, the newest first.
use Rattle.std.specs.Prelude.{◌≡◌, ◌⊎◌, ◌<◌, ℕ, ◌+◌, Bool, true, false, not, ◌||◌, ◌&&◌, ◌==◌, List, [], ◌∷◌, length}
use Rattle.sdb_arrivals.specs.Story.{Answer, Done, Full, Disk, NotAStore, OutOfMemory, Event, Opened, Piece, Ended, Commit, Work, Step}
use Rattle.sdb_core.specs.Ledgers.{Ledger, Opening, ledger}
use Rattle.sdb_status.specs.declared.status.Status.{Status}
use Rattle.sdb_status.specs.declared.status.Status.TheVariants as status

-- The core is stepped with an event that came on the links, with a Commit or a Work that is due, or with the end of a
-- connection on which a send failed. Or the links say that nothing comes any more, and the core isn't stepped.
pub data Act : Type 0 where
  takes : Step → Act
  does : Step → Act
  loses : Step → Act
  closes : Act

-- the steps of the core
abbrev pub story_of : List Act → List Step
story_of [] = []
story_of (takes s ∷ acts) = s ∷ story_of acts
story_of (does s ∷ acts) = s ∷ story_of acts
story_of (loses s ∷ acts) = s ∷ story_of acts
story_of (closes ∷ acts) = story_of acts

-- how many events came on the links
abbrev pub taken : List Act → ℕ
taken [] = 0
taken (takes s ∷ acts) = taken acts + 1
taken (does s ∷ acts) = taken acts
taken (loses s ∷ acts) = taken acts
taken (closes ∷ acts) = taken acts + 1

-- the connection that an event ends
abbrev pub ended_by : Event → List ℕ → List ℕ
ended_by (Ended c) conns = c ∷ conns
ended_by (Opened c) conns = conns
ended_by (Piece c moment bytes) conns = conns
ended_by Commit conns = conns
ended_by Work conns = conns

-- the connections on which a send failed
abbrev pub lost : List Act → List ℕ
lost [] = []
lost (takes s ∷ acts) = lost acts
lost (does s ∷ acts) = lost acts
lost (loses s ∷ acts) = ended_by s.event (lost acts)
lost (closes ∷ acts) = lost acts

-- where a server stands: the next event is to come; a Commit is due; a Commit was made, and another is due while
-- something waits, else a Work; or it is over
pub data Phase : Type 0 where
  resting : Phase
  to_commit : Phase
  committing : Phase
  over : Status → Phase

-- the phase after an event that came, by the event
abbrev pub after_event : Event → Phase
after_event (Opened c) = resting
after_event (Piece c moment bytes) = to_commit
after_event (Ended c) = resting
after_event Commit = resting
after_event Work = resting

-- and by the answer
abbrev pub after_taken : Answer → Event → Phase
after_taken Done event = after_event event
after_taken Full event = after_event event
after_taken Disk event = after_event event
after_taken (NotAStore file) event = over (status.NotAStore file)
after_taken OutOfMemory event = over status.OutOfMemory

-- the phase after a Commit or a Work
abbrev pub after_work : Event → Phase
after_work (Opened c) = resting
after_work (Piece c moment bytes) = resting
after_work (Ended c) = resting
after_work Commit = committing
after_work Work = resting

-- and by the answer
abbrev pub after_done : Answer → Event → Phase
after_done Done event = after_work event
after_done Full event = after_work event
after_done Disk event = after_work event
after_done (NotAStore file) event = over (status.NotAStore file)
after_done OutOfMemory event = after_work event

-- the phase after acts
abbrev pub phase : List Act → Phase
phase [] = resting
phase (takes s ∷ acts) = after_taken s.answer s.event
phase (does s ∷ acts) = after_done s.answer s.event
phase (loses s ∷ acts) = phase acts
phase (closes ∷ acts) = over status.Done

-- an event that comes on the links
abbrev pub Comes : Event → Type 0
Comes (Opened c) = Unit {0}
Comes (Piece c moment bytes) = Unit {0}
Comes (Ended c) = Unit {0}
Comes Commit = ⊥
Comes Work = ⊥

-- the end of a connection
abbrev pub IsEnd : Event → Type 0
IsEnd (Ended c) = Unit {0}
IsEnd (Opened c) = ⊥
IsEnd (Piece c moment bytes) = ⊥
IsEnd Commit = ⊥
IsEnd Work = ⊥

-- what is due after a Commit, by whether something waits
abbrev pub due_event : Bool → Event
due_event true = Commit
due_event false = Work

-- an act that is due in a phase
abbrev pub IsDue : Phase → Bool → Act → Type 0
IsDue resting waits (takes s) = Comes s.event
IsDue resting waits (does s) = ⊥
IsDue resting waits (loses s) = ⊥
IsDue resting waits closes = Unit {0}
IsDue to_commit waits (takes s) = ⊥
IsDue to_commit waits (does s) = s.event ≡ Commit
IsDue to_commit waits (loses s) = ⊥
IsDue to_commit waits closes = ⊥
IsDue committing waits (takes s) = ⊥
IsDue committing waits (does s) = s.event ≡ due_event waits
IsDue committing waits (loses s) = IsEnd s.event
IsDue committing waits closes = ⊥
IsDue (over status) waits (takes s) = ⊥
IsDue (over status) waits (does s) = ⊥
IsDue (over status) waits (loses s) = IsEnd s.event
IsDue (over status) waits closes = ⊥

-- an answer is held or a request waits
abbrev pub waits_in : Ledger → Bool
waits_in l = not (length l.held == 0) || not (length l.waiting == 0)

-- each act was due after those before it
abbrev pub AreDue : Opening → List Act → Type 0
AreDue o [] = Unit {0}
AreDue o (act ∷ acts) = IsDue (phase acts) (waits_in (ledger o (story_of acts))) act × AreDue o acts

-- a list of connections has this one
abbrev pub has : ℕ → List ℕ → Bool
has k [] = false
has k (c ∷ conns) = (k == c) || has k conns

-- a send on the connection failed
abbrev pub is_lost : ℕ → List Act → Bool
is_lost k acts = has k (lost acts)

-- an event opens the connection
abbrev pub is_opening : ℕ → Event → Bool
is_opening k (Opened c) = c == k
is_opening k (Piece c moment bytes) = false
is_opening k (Ended c) = false
is_opening k Commit = false
is_opening k Work = false

-- an answer says that 64 connections are live
abbrev pub is_full : Answer → Bool
is_full Full = true
is_full Done = false
is_full Disk = false
is_full (NotAStore file) = false
is_full OutOfMemory = false

-- the connection opened on the links
abbrev pub has_come : ℕ → List Step → Bool
has_come k [] = false
has_come k (s ∷ story) = is_opening k s.event || has_come k story

-- it opened where 64 connections were live
abbrev pub came_full : ℕ → List Step → Bool
came_full k [] = false
came_full k (s ∷ story) = (is_opening k s.event && is_full s.answer) || came_full k story

-- what a status says of the acts of a server that isn't over: all turns were made, or the links failed before; or there
-- was no memory to begin with
abbrev pub EndsResting : Status → ℕ → List Act → Type 0
EndsResting status.Done turns acts = (phase acts ≡ resting) × (taken acts ≡ turns)
EndsResting status.LinkFault turns acts = (phase acts ≡ resting) × (taken acts < turns)
EndsResting status.OutOfMemory turns acts = acts ≡ []
EndsResting (status.NotAStore file) turns acts = ⊥
EndsResting status.Usage turns acts = ⊥
EndsResting status.ReadFault turns acts = ⊥
EndsResting status.WriteFault turns acts = ⊥
EndsResting status.DiskFault turns acts = ⊥
EndsResting (status.BadKeys line) turns acts = ⊥
EndsResting (status.BadScript at) turns acts = ⊥
EndsResting status.InputTooLong turns acts = ⊥

-- what a status says of the acts
abbrev pub Ends : Status → ℕ → List Act → Type 0
Ends found turns acts = (phase acts ≡ over found) ⊎ EndsResting found turns acts

-- the statuses with which a step of the core ends a server
abbrev pub IsOfCore : Status → Type 0
IsOfCore status.Done = ⊥
IsOfCore status.Usage = ⊥
IsOfCore status.ReadFault = ⊥
IsOfCore status.OutOfMemory = Unit {0}
IsOfCore status.WriteFault = ⊥
IsOfCore status.DiskFault = ⊥
IsOfCore (status.BadKeys line) = ⊥
IsOfCore (status.BadScript at) = ⊥
IsOfCore (status.NotAStore file) = Unit {0}
IsOfCore status.LinkFault = ⊥
IsOfCore status.InputTooLong = ⊥

-- the statuses with which a server ends
abbrev pub IsOfServer : Status → Type 0
IsOfServer status.Done = Unit {0}
IsOfServer status.Usage = ⊥
IsOfServer status.ReadFault = ⊥
IsOfServer status.OutOfMemory = Unit {0}
IsOfServer status.WriteFault = ⊥
IsOfServer status.DiskFault = ⊥
IsOfServer (status.BadKeys line) = ⊥
IsOfServer (status.BadScript at) = ⊥
IsOfServer (status.NotAStore file) = Unit {0}
IsOfServer status.LinkFault = Unit {0}
IsOfServer status.InputTooLong = ⊥
