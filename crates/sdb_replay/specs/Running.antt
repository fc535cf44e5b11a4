-- What one step of a run does, and how the core follows the reader of the script.
use Rattle.std.specs.Prelude.{◌≡◌, ◌⊎◌, ℕ, ◌≤◌, List, [], ◌∷◌, Option, Some, None, IsTrue}
use Rattle.sdb_arrivals.specs.Queues.{Queues}
use Rattle.sdb_arrivals.specs.Story.{Answer, NotAStore as BadFiles, Event, Framed, Step}
use Rattle.sdb_arrivals.specs.Tables.{Connections, Turns}
use Rattle.sdb_core.specs.Kept.{View}
use Rattle.sdb_core.specs.Ledgers.{Opening, ledger}
use Rattle.sdb_core.specs.Told.{RoseBy, StandsFor, faults_of}
use Rattle.sdb_disk.specs.Disk.{State}
use Rattle.sdb_script.specs.Reading.{Reading}
use Rattle.sdb_script.specs.declared.fault.ScriptFault.{ScriptFault}
use Rattle.sdb_script.specs.declared.fault.ScriptFault.TheVariants as fault
use Rattle.sdb_script.specs.Spelled.{closed_record}
use Rattle.sdb_status.specs.declared.status.Status.{Status}
use Rattle.sdb_status.specs.declared.status.Status.TheVariants.{Done, Usage, ReadFault, OutOfMemory, WriteFault, DiskFault, BadKeys, BadScript, NotAStore, LinkFault, InputTooLong}
use Rattle.sdb_keys.specs.declared.keys.Key.{Key}
use Rattle.sdb_replay.specs.Keyed.{GivesKeys, GivesNone}
use Rattle.sdb_replay.specs.Endings.{AppendsFront, IsAnswered, NotOpened}
use Rattle.sdb_replay.specs.Events.{ending}
use Rattle.sdb_replay.specs.Shown.{step_text}
use Rattle.std.specs.Io.KnownBytes.{Appends}

-- a core whose released answers were taken off
abbrev pub emptied : View → View
emptied k = record {
  keys = k.keys;
  table = k.table;
  line = record { held = k.line.held; waiting = k.line.waiting; out = [] };
  store = k.store;
}

-- the status that a fault of a script is
abbrev pub status_by : ScriptFault → Status
status_by (fault.Bad at) = BadScript at
status_by fault.Read = ReadFault
status_by fault.TooLong = InputTooLong
status_by fault.OutOfMemory = OutOfMemory

-- the closing of a refused connection, where there is one
abbrev pub refused_text : Option ℕ → List ℕ
refused_text None = []
refused_text (Some conn) = closed_record conn

-- the connections and the bytes that the core counts came from the reader
pub record Follows (t : Connections) (reading : Reading) : Type 0 where
  pub opened : t.last_opened ≤ reading.known.greatest
  pub bytes : t.bytes_taken ≤ reading.at

-- one event, of a story: the core and the disk stand for the story with it, and of what it shows this was written
pub record Carried (Wrote : List ℕ → Type 0) (e : Event) (a : Answer) (new : View) (before now : State) (o : Opening) (story : List Step) : Type 0 where
  pub s : Step
  pub event : s.event ≡ e
  pub answer : s.answer ≡ a
  pub stands : StandsFor new now o (s ∷ story)
  pub answered : IsAnswered o s story
  pub counted : RoseBy (faults_of (ledger o story).sound e a) before.faults now.faults
  pub wrote : Wrote (step_text e a (ledger o story))

-- the same of every story for which they stood
abbrev pub Carries : (List ℕ → Type 0) → Event → Answer → View → View → State → State → Type 0
Carries Wrote e a old new before now =
    IsTrue before.told → (o : Opening) (story : List Step) → StandsFor old before o story → Carried Wrote e a new before now o story

-- the run goes on after the event
pub record CarriesOn (e : Event) (old new : View) (before now : State) (written all : Option (List ℕ)) : Type 0 where
  pub answer : Answer
  pub goes : ending e answer ≡ None
  pub released : ℕ
  pub came : List Framed
  pub turns : Turns e answer released came old.table new.table
  pub quiet : new.line.out ≡ []
  pub carries : Carries (Appends written all) e answer old new before now

-- the run ends after the event; the answer is one by which it ends, or what the step shows wasn't written whole
abbrev pub CarriesTo : Status → Event → View → View → State → State → (written all : Option (List ℕ)) → Type 0
CarriesTo OutOfMemory e old new before now written all = (answer : Answer) × Carries (AppendsFront written all) e answer old new before now
CarriesTo WriteFault e old new before now written all = (answer : Answer) × Carries (AppendsFront written all) e answer old new before now
CarriesTo (NotAStore file) e old new before now written all = Carries (Appends written all) e (BadFiles file) old new before now
CarriesTo Done e old new before now written all = ⊥
CarriesTo Usage e old new before now written all = ⊥
CarriesTo ReadFault e old new before now written all = ⊥
CarriesTo DiskFault e old new before now written all = ⊥
CarriesTo (BadKeys line) e old new before now written all = ⊥
CarriesTo (BadScript at) e old new before now written all = ⊥
CarriesTo LinkFault e old new before now written all = ⊥
CarriesTo InputTooLong e old new before now written all = ⊥

-- no script was begun: the keys were refused, or the store wasn't opened with them
abbrev pub NotBegun : Status → (keys_left keys_rest : Option (List ℕ)) → State → Type 0
NotBegun status keys_left keys_rest before =
    GivesNone status keys_left keys_rest ⊎ ((keys : List Key) × GivesKeys keys_left keys_rest keys × NotOpened status before)
