-- The story of a core: what happened to it, step by step, the newest step first.
use Rattle.std.specs.Prelude.{ℕ, Bool, List, [], ◌∷◌, ◌++◌, map, Result, Ok, Err}
use Rattle.sdb_http.specs.Messages.{Reply}
use Rattle.sdb_arrivals.specs.declared.event.CoreFault.{CoreFault}
use Rattle.sdb_arrivals.specs.declared.event.CoreFault.TheVariants as fault
use Rattle.sdb_arrivals.specs.declared.event.Event as happens
use Rattle.sdb_arrivals.specs.declared.event.Event.TheVariants as event
use Rattle.sdb_arrivals.specs.declared.read.Read.{Read}

-- what happens to a core: a connection is opened, a piece of its bytes comes at a moment, it ends; a commit; a
-- turn of background work
pub data Event : Type 0 where
  Opened : ℕ → Event
  Piece : ℕ → ℕ → List ℕ → Event
  Ended : ℕ → Event
  Commit Work : Event

-- what happens, as contracts see it
abbrev pub event_of : happens.Event → Event
event_of (event.Opened c) = Opened c
event_of (event.Piece c moment bytes) = Piece c moment bytes.now
event_of (event.Ended c) = Ended c
event_of event.Commit = Commit
event_of event.Work = Work

-- what a step answers; NotAStore names the first bad file
pub data Answer : Type 0 where
  Done Full Disk : Answer
  NotAStore : ℕ → Answer
  OutOfMemory : Answer

-- the answer that a fault is
abbrev pub answer_by : CoreFault → Answer
answer_by fault.Full = Full
answer_by fault.Disk = Disk
answer_by (fault.NotAStore file) = NotAStore file
answer_by fault.OutOfMemory = OutOfMemory

-- the answer of a step
abbrev pub answer_of : {T : Type 0} → Result T CoreFault → Answer
answer_of (Ok value) = Done
answer_of (Err fault) = answer_by fault

-- a request or a fault of framing, as its connection gave it: its number counts from 1 on its connection, and
-- its moment is that of the piece that made it whole
pub record Framed : Type 0 where
  pub conn : ℕ
  pub number : ℕ
  pub moment : ℕ
  pub request : Reply

-- an arrival, and what is read of it
pub record Arrival : Type 0 where
  pub framed : Framed
  pub read : Read

-- a step of a core: the event and its answer; whether the store is sound after it, its sequence number and the
-- disk's moment then; the arrivals that it made whole; and of the requests that were executed in it, in order,
-- whether there was no memory for them
pub record Step : Type 0 where
  pub event : Event
  pub answer : Answer
  pub sound : Bool
  pub sequence : ℕ
  pub moment : ℕ
  pub came : List Arrival
  pub refused : List Bool

-- every arrival of a story, in the one order of arrivals
abbrev pub came_in : List Step → List Arrival
came_in [] = []
came_in (s ∷ story) = came_in story ++ s.came

-- what a step made whole, as framing sees it
abbrev pub brought : Step → List Framed
brought s = map (λ (w : Arrival). w.framed) s.came

-- the same of a story
abbrev pub framed_in : List Step → List Framed
framed_in [] = []
framed_in (s ∷ story) = framed_in story ++ brought s
