-- The events of a script, as what happens to the core, and those of a story.
use Rattle.std.specs.Prelude.{◌≡◌, ℕ, List, [], ◌∷◌, ◌++◌, Option, None, Some}
use Rattle.sdb_arrivals.specs.Story.{Answer, Done, Full, Disk, NotAStore, OutOfMemory, Step}
use Rattle.sdb_arrivals.specs.Story as story
use Rattle.sdb_script.specs.Events.{Event, Opened, Piece, Ended, Commit, Work}
use Rattle.sdb_status.specs.declared.status.Status.{Status}
use Rattle.sdb_status.specs.declared.status.Status.TheVariants as status

-- what a record's event is to the core
abbrev pub happening : Event → story.Event
happening (Opened conn) = story.Opened conn
happening (Piece conn moment bytes) = story.Piece conn moment bytes
happening (Ended conn) = story.Ended conn
happening Commit = story.Commit
happening Work = story.Work

-- the events of a story, in their order
abbrev pub happened : List Step → List story.Event
happened [] = []
happened (s ∷ story) = happened story ++ s.event ∷ []

-- The status that ends a run after a step: where the store's files stand for nothing, and where there was no memory for what a client
-- did. Other steps that aren't done don't end it.
abbrev pub ending : story.Event → Answer → Option Status
ending event (NotAStore file) = Some (status.NotAStore file)
ending (story.Opened conn) OutOfMemory = Some status.OutOfMemory
ending (story.Piece conn moment bytes) OutOfMemory = Some status.OutOfMemory
ending (story.Ended conn) OutOfMemory = None
ending story.Commit OutOfMemory = None
ending story.Work OutOfMemory = None
ending event Done = None
ending event Full = None
ending event Disk = None

-- the run goes on after each step
abbrev pub AllGoOn : List Step → Type 0
AllGoOn [] = Unit {0}
AllGoOn (s ∷ story) = (ending s.event s.answer ≡ None) × AllGoOn story
