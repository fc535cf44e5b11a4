-- What a run of a script says, by its status.
use Rattle.std.specs.Prelude.{◌≡◌, ◌⊎◌, ℕ, ◌<◌, ◌≤◌, List, [], ◌∷◌, length, map, take, IsTrue, None}
use Rattle.std.specs.declared.option.Option.{Option}
use Rattle.std.specs.Io.KnownBytes.{Appends, Consumes, IsAtEnd, Keeps}
use Rattle.sdb_arrivals.specs.Framing.{live}
use Rattle.sdb_arrivals.specs.Story.{Done as Committed, NotAStore as BadFiles, Step}
use Rattle.sdb_core.specs.Ledgers.{Opening, Plain, changes_in, count_released, gives, ledger}
use Rattle.sdb_core.specs.Prefix.{CrashPrefix, RightSince}
use Rattle.sdb_core.specs.Told.{AreSteps, IsFullWhere, Marked, RoseBy, faults_in}
use Rattle.sdb_disk.specs.Disk.{Files, Image, LeavesOnly, State}
use Rattle.sdb_keys.specs.declared.keys.Key.{Key}
use Rattle.sdb_pairs.specs.Accounts.{DomainEntries}
use Rattle.sdb_record.specs.Stands.{IsFirstBad, StandsFor}
use Rattle.sdb_script.specs.Events.{Event}
use Rattle.sdb_store.specs.Opened.{StandsAsBefore}
use Rattle.sdb_status.specs.declared.status.Status.{Status}
use Rattle.sdb_status.specs.declared.status.Status.TheVariants.{Done, Usage, ReadFault, OutOfMemory, WriteFault, DiskFault, BadKeys, BadScript, NotAStore, LinkFault, InputTooLong}
use Rattle.sdb_replay.specs.Events.{AllGoOn, happened, happening}
use Rattle.sdb_replay.specs.Keyed.{GivesKeys, GivesNone}
use Rattle.sdb_replay.specs.Records.{BeginsWith, EndsHere, GoesWrong, IsUnjudged, most_input}
use Rattle.sdb_replay.specs.Shown.{shown}

-- ---- the script

-- How far the script was read, and that these are its events. Done: to its end. BadScript: to a record that is wrong or cut. ReadFault
-- and InputTooLong: to bytes by which no record can be judged. Else the input began with the records of these events.
abbrev pub Reads : Status → Option (List ℕ) → List ℕ → List Event → Type 0
Reads Done rest given events = EndsHere rest given events
Reads (BadScript at) rest given events = GoesWrong rest given events at
Reads ReadFault rest given events = IsUnjudged given events × (length given < most_input)
Reads InputTooLong rest given events = IsUnjudged given events × (length given ≡ most_input)
Reads OutOfMemory rest given events = BeginsWith given events
Reads WriteFault rest given events = BeginsWith given events
Reads (NotAStore file) rest given events = BeginsWith given events
Reads Usage rest given events = ⊥
Reads DiskFault rest given events = ⊥
Reads (BadKeys line) rest given events = ⊥
Reads LinkFault rest given events = ⊥

-- ---- the output

-- a front of the text is written
abbrev pub AppendsFront : Option (List ℕ) → Option (List ℕ) → List ℕ → Type 0
AppendsFront before now text = (n : ℕ) × (n ≤ length text) × Appends before now (take n text)

-- all that the story shows is written, or a front of it where the output failed or memory ended
abbrev pub Shows : Status → Option (List ℕ) → Option (List ℕ) → List ℕ → Type 0
Shows Done written all text = Appends written all text
Shows (BadScript at) written all text = Appends written all text
Shows ReadFault written all text = Appends written all text
Shows InputTooLong written all text = Appends written all text
Shows (NotAStore file) written all text = Appends written all text
Shows OutOfMemory written all text = AppendsFront written all text
Shows WriteFault written all text = AppendsFront written all text
Shows Usage written all text = ⊥
Shows DiskFault written all text = ⊥
Shows (BadKeys line) written all text = ⊥
Shows LinkFault written all text = ⊥

-- ---- the story

-- the run went on after each step but, maybe, the last
abbrev pub GoOnToLast : List Step → Type 0
GoOnToLast [] = Unit {0}
GoOnToLast (s ∷ story) = AllGoOn story

-- the last step found that the files stand for nothing
abbrev pub FindsBad : ℕ → List Step → Type 0
FindsBad file [] = ⊥
FindsBad file (s ∷ story) = (s.answer ≡ BadFiles file) × AllGoOn story

-- no step ended the run, or the last one did
abbrev pub Stops : Status → List Step → Type 0
Stops Done story = AllGoOn story
Stops (BadScript at) story = AllGoOn story
Stops ReadFault story = AllGoOn story
Stops InputTooLong story = AllGoOn story
Stops (NotAStore file) story = FindsBad file story
Stops OutOfMemory story = GoOnToLast story
Stops WriteFault story = GoOnToLast story
Stops Usage story = ⊥
Stops DiskFault story = ⊥
Stops (BadKeys line) story = ⊥
Stops LinkFault story = ⊥

-- how a step was answered: an opening is refused exactly where 64 connections are live; a plain answer leaves only by a commit that
-- has committed, or where nothing that was held changed anything
pub record IsAnswered (o : Opening) (s : Step) (story : List Step) : Type 0 where
  pub full : IsFullWhere s.event s.answer (length (live (count_released o) story))
  pub plain : Marked Plain (gives s.event s.answer (ledger o story)) → (s.answer ≡ Committed) ⊎ (changes_in (ledger o story).held ≡ [])

-- the same of each step
abbrev pub AreAnswered : Opening → List Step → Type 0
AreAnswered o [] = Unit {0}
AreAnswered o (s ∷ story) = IsAnswered o s story × AreAnswered o story

-- Whatever a crash leaves stands for these accounts and this number.
abbrev pub EachStands : State → DomainEntries → ℕ → Type 0
EachStands s accounts number = (c : Files) → Image s c → StandsFor accounts number c

-- A story of a run: its events are those of the script, in order, each answered and executed as the core's definitions say; what a
-- crash leaves since a step is right after it or after a later one; the steps that tell of a fault of the disk are no more than the
-- disk's count rose by; and what is written is what the story shows.
pub record Plays (status : Status) (before now : State) (o : Opening) (events : List Event) (written all : Option (List ℕ)) : Type 0 where
  pub story : List Step
  pub events_are : happened story ≡ map happening events
  pub steps : AreSteps o story
  pub answered : AreAnswered o story
  pub stops : Stops status story
  pub crash : CrashPrefix now o story
  pub faults : RoseBy (faults_in o story) before.faults now.faults
  pub shows : Shows status written all (shown o story)

-- and what a crash leaves at any moment of the run, its opening included, is right after some step
pub record Tells (status : Status) (before now : State) (o : Opening) (events : List Event) (written all : Option (List ℕ)) : Type 0 where
  pub plays : Plays status before now o events written all
  pub opened : before.moment ≤ o.moment
  pub during : LeavesOnly before now (RightSince None o plays.story [])

-- a story of the core that was opened with these keys over these accounts
abbrev pub opening : List Key → DomainEntries → ℕ → ℕ → Opening
opening keys accounts number moment = record { keys = keys; accounts = accounts; number = number; moment = moment }

-- The keys were read and the store was opened, and then the script was replayed.
abbrev pub Replays : Status → List Key → State → State → (left rest written all : Option (List ℕ)) → Type 0
Replays status keys before now left rest written all =
    (given : List ℕ) × (events : List Event) × Consumes left rest given × Reads status rest given events
    × (IsTrue before.told → (accounts : DomainEntries) (number : ℕ) → EachStands before accounts number
    → (moment : ℕ) × Tells status before now (opening keys accounts number moment) events written all)

-- ---- before the script

-- the store wasn't opened: what the status says
abbrev pub NotOpened : Status → State → Type 0
NotOpened DiskFault before = Unit {0}
NotOpened (NotAStore file) before = (file < 4) × (IsTrue before.told → IsFirstBad file before.seen)
NotOpened OutOfMemory before = Unit {0}
NotOpened Done before = ⊥
NotOpened Usage before = ⊥
NotOpened ReadFault before = ⊥
NotOpened WriteFault before = ⊥
NotOpened (BadKeys line) before = ⊥
NotOpened (BadScript at) before = ⊥
NotOpened LinkFault before = ⊥
NotOpened InputTooLong before = ⊥

-- whatever a crash leaves meanwhile stands for what something stood for that a crash might have left before
abbrev pub LeavesAsBefore : State → State → Type 0
LeavesAsBefore before now = IsTrue before.told → LeavesOnly before now (StandsAsBefore before)

-- The keys were refused; or the store wasn't opened with them; or the script was replayed. Before it nothing is read of the input
-- and nothing is written.
abbrev pub Ends : Status → (keys_left keys_rest : Option (List ℕ)) → State → State → (left rest written all : Option (List ℕ)) → Type 0
Ends status keys_left keys_rest before now left rest written all =
    (GivesNone status keys_left keys_rest × LeavesAsBefore before now × Keeps left rest × Keeps written all)
    ⊎ ((keys : List Key) × GivesKeys keys_left keys_rest keys
    × ((NotOpened status before × LeavesAsBefore before now × Keeps left rest × Keeps written all)
    ⊎ Replays status keys before now left rest written all))
