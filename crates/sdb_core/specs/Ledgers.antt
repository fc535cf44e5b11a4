-- What a core holds after a story: the answers that are held, the requests that wait, the groups that are durable,
-- and what is sent. All of it is computed from the story, step by step.
use Rattle.std.specs.Prelude.{ℕ, ◌+◌, ◌-◌, Bool, true, false, ◌==◌, List, [], ◌∷◌, ◌++◌, length, map, take, drop, Option, None, Some, if◌then◌else◌}
use Rattle.sdb_arrivals.specs.Queues.{Answered, Sent, in_line}
use Rattle.sdb_arrivals.specs.Releases.{refusal_bytes}
use Rattle.sdb_arrivals.specs.Story.{Answer, Done, Full, Disk, NotAStore, OutOfMemory, Event, Opened, Piece, Ended, Commit, Work, Arrival, Step}
use Rattle.sdb_keys.specs.declared.keys.Key.{Key}
use Rattle.sdb_pairs.specs.Accounts.{DomainEntries}
use Rattle.sdb_pairs.specs.Changes.{state}
use Rattle.sdb_pairs.specs.declared.change.Change.{Change}
use Rattle.sdb_record.specs.Journals.{Group, next}
use Rattle.sdb_store.specs.Kept.{waiting}
use Rattle.sdb_tables.specs.declared.refusal.Refusal.{Refusal}
use Rattle.sdb_tables.specs.declared.refusal.Refusal.TheVariants as refusal
use Rattle.sdb_respond.specs.Reply.{allowance, reply}

-- what a story begins with: the keys; the accounts and the number for which the files stood; the disk's moment
pub record Opening : Type 0 where
  pub keys : List Key
  pub accounts : DomainEntries
  pub number : ℕ
  pub moment : ℕ

-- an arrival that was executed: its response, or None where there was no memory for it, and its changes
pub record Executed : Type 0 where
  pub arrival : Arrival
  pub answer : Option (List ℕ)
  pub changes : List Change

-- what a core can hold after a story: the answers that are held and the requests that wait, the oldest first; the
-- groups that are durable, the newest first; a group of which it isn't decided whether it is; whether the store is sound
pub record Ledger : Type 0 where
  pub held : List Executed
  pub waiting : List Arrival
  pub groups : List Group
  pub undecided : Option Group
  pub sound : Bool

-- ---- the accounts

-- the accounts that are durable
abbrev pub durable : Opening → List Group → DomainEntries
durable o [] = o.accounts
durable o (group ∷ earlier) = state (durable o earlier) group

-- the number of the last group
abbrev pub number : Opening → List Group → ℕ
number o [] = o.number
number o (group ∷ earlier) = next (number o earlier)

-- the changes of the answers that are held
abbrev pub changes_in : List Executed → List Change
changes_in [] = []
changes_in (x ∷ held) = x.changes ++ changes_in held

-- the accounts as the next request sees them: what is durable, and then the changes that are held
abbrev pub seen : Opening → Ledger → DomainEntries
seen o l = state (durable o l.groups) (changes_in l.held)

-- ---- executing

-- the first of these, or false
abbrev pub first_or : List Bool → Bool
first_or [] = false
first_or (b ∷ bs) = b

-- those behind the first
abbrev pub behind : List Bool → List Bool
behind [] = []
behind (b ∷ bs) = bs

-- an arrival executed over the accounts; without memory it has no answer of its own, and changes nothing
abbrev pub executed : Bool → DomainEntries → Arrival → Executed
executed true accounts w = record { arrival = w; answer = None; changes = [] }
executed false accounts w = record { arrival = w; answer = Some (reply accounts w).0; changes = (reply accounts w).1 }

-- arrivals executed one after the other, each over what the one before leaves; each may be refused for memory
abbrev pub executes : DomainEntries → List Bool → List Arrival → List Executed
executes accounts refused [] = []
executes accounts refused (w ∷ ws) =
    executed (first_or refused) accounts w
    ∷ executes (state accounts (executed (first_or refused) accounts w).changes) (behind refused) ws

-- how many more answers can be held
abbrev pub free : Ledger → ℕ
free l = 64 - length l.held

-- requests that wait are executed, until 64 answers are held
abbrev pub filled : Opening → List Bool → Ledger → Ledger
filled o refused l = record {
  held = l.held ++ executes (seen o l) refused (take (free l) l.waiting);
  waiting = drop (free l) l.waiting;
  groups = l.groups;
  undecided = l.undecided;
  sound = l.sound;
}

-- how many items may be looked at for arrivals that are executed so
abbrev pub allowed : DomainEntries → List Bool → List Arrival → ℕ
allowed accounts refused [] = 0
allowed accounts refused (w ∷ ws) =
    allowance accounts w
    + allowed (state accounts (executed (first_or refused) accounts w).changes) (behind refused) ws

-- and for those of a ledger, until 64 answers are held
abbrev pub allowed_in : Opening → List Bool → Ledger → ℕ
allowed_in o refused l = allowed (seen o l) refused (take (free l) l.waiting)

-- ---- commits

-- a group, where it has changes, before the others
abbrev pub with_group : List Change → List Group → List Group
with_group [] groups = groups
with_group (change ∷ more) groups = (change ∷ more) ∷ groups

-- a commit that went well: what was held is released, and its changes are durable
abbrev pub committed : Ledger → Ledger
committed l = record {
  held = [];
  waiting = l.waiting;
  groups = with_group (changes_in l.held) l.groups;
  undecided = l.undecided;
  sound = l.sound;
}

-- a commit that failed: what was held is released, and its group is undecided
abbrev pub failed : Ledger → Ledger
failed l = record {
  held = [];
  waiting = l.waiting;
  groups = l.groups;
  undecided = waiting (changes_in l.held);
  sound = false;
}

-- what was held is released
abbrev pub rested : Ledger → Ledger
rested l = record { held = []; waiting = l.waiting; groups = l.groups; undecided = l.undecided; sound = l.sound }

-- without the first so many that wait
abbrev pub without : ℕ → Ledger → Ledger
without n l = record { held = l.held; waiting = drop n l.waiting; groups = l.groups; undecided = l.undecided; sound = l.sound }

-- an undecided group counts exactly where the number says so
abbrev pub decides : Opening → ℕ → List Group → Option Group → List Group
decides o sequence groups None = groups
decides o sequence groups (Some group) = if sequence == next (number o groups) then group ∷ groups else groups

-- a store that was opened again, with this number
abbrev pub reopened : Opening → ℕ → Ledger → Ledger
reopened o sequence l = record {
  held = l.held;
  waiting = l.waiting;
  groups = decides o sequence l.groups l.undecided;
  undecided = None;
  sound = true;
}

-- one ledger where the store is sound, another where it isn't
abbrev pub if_sound : Bool → Ledger → Ledger → Ledger
if_sound true sound other = sound
if_sound false sound other = other

-- an opening that was tried again: where the store is sound after it, requests are executed
abbrev pub reopens : Opening → Step → Ledger → Ledger
reopens o s l = if_sound s.sound (filled o s.refused (reopened o s.sequence l)) l

-- a commit, by whether the store was sound, and by its answer
abbrev pub commits : Bool → Answer → Opening → Step → Ledger → Ledger
commits true Done o s l = filled o s.refused (committed l)
commits true Full o s l = reopens o s (failed l)
commits true Disk o s l = reopens o s (failed l)
commits true (NotAStore file) o s l = reopens o s (failed l)
commits true OutOfMemory o s l = reopens o s (failed l)
commits false Done o s l = reopens o s (rested l)
commits false Full o s l = reopens o s (rested l)
commits false Disk o s l = without 64 (rested l)
commits false (NotAStore file) o s l = reopens o s (rested l)
commits false OutOfMemory o s l = without 64 (rested l)

-- ---- the other events

-- with what came behind those that wait
abbrev pub arrived : List Arrival → Ledger → Ledger
arrived came l = record { held = l.held; waiting = l.waiting ++ came; groups = l.groups; undecided = l.undecided; sound = l.sound }

-- a piece that came: where the store is sound, requests are executed
abbrev pub comes : Answer → Opening → Step → Ledger → Ledger
comes Done o s l = if_sound l.sound (filled o s.refused (arrived s.came l)) (arrived s.came l)
comes Full o s l = l
comes Disk o s l = l
comes (NotAStore file) o s l = l
comes OutOfMemory o s l = l

-- a turn of background work: after a fault of the disk the store isn't sound
abbrev pub works : Answer → Ledger → Ledger
works Done l = l
works Full l = l
works Disk l = record { held = l.held; waiting = l.waiting; groups = l.groups; undecided = l.undecided; sound = false }
works (NotAStore file) l = l
works OutOfMemory l = l

-- what a step makes of a ledger
abbrev pub moves : Event → Opening → Step → Ledger → Ledger
moves (Opened c) o s l = l
moves (Piece c moment bytes) o s l = comes s.answer o s l
moves (Ended c) o s l = l
moves Commit o s l = commits l.sound s.answer o s l
moves Work o s l = works s.answer l

-- ---- which requests a step executes

-- a ledger where the store is sound, and else none
abbrev pub where_sound : Bool → Ledger → Option Ledger
where_sound true l = Some l
where_sound false l = None

-- where an opening was tried again
abbrev pub reopens_on : Opening → Step → Ledger → Option Ledger
reopens_on o s l = where_sound s.sound (reopened o s.sequence l)

-- in a commit, by whether the store was sound, and by its answer
abbrev pub commits_on : Bool → Answer → Opening → Step → Ledger → Option Ledger
commits_on true Done o s l = Some (committed l)
commits_on true Full o s l = reopens_on o s (failed l)
commits_on true Disk o s l = reopens_on o s (failed l)
commits_on true (NotAStore file) o s l = reopens_on o s (failed l)
commits_on true OutOfMemory o s l = reopens_on o s (failed l)
commits_on false Done o s l = reopens_on o s (rested l)
commits_on false Full o s l = reopens_on o s (rested l)
commits_on false Disk o s l = None
commits_on false (NotAStore file) o s l = reopens_on o s (rested l)
commits_on false OutOfMemory o s l = None

-- in a piece that came
abbrev pub comes_on : Answer → Step → Ledger → Option Ledger
comes_on Done s l = where_sound l.sound (arrived s.came l)
comes_on Full s l = None
comes_on Disk s l = None
comes_on (NotAStore file) s l = None
comes_on OutOfMemory s l = None

-- the ledger whose requests a step executes, where it executes any
abbrev pub executes_on : Event → Opening → Step → Ledger → Option Ledger
executes_on (Opened c) o s l = None
executes_on (Piece c moment bytes) o s l = comes_on s.answer s l
executes_on (Ended c) o s l = None
executes_on Commit o s l = commits_on l.sound s.answer o s l
executes_on Work o s l = None

-- how many items may be looked at for the requests of a ledger, where there is one
abbrev pub allowed_of : Opening → List Bool → Option Ledger → ℕ
allowed_of o refused None = 0
allowed_of o refused (Some l) = allowed_in o refused l

-- how many items may be looked at in a step: the allowances of the arrivals that it executes, added up
abbrev pub allows : Opening → Step → Ledger → ℕ
allows o s l = allowed_of o s.refused (executes_on s.event o s l)

-- ---- what is released

-- how an arrival was answered, which the code of its response shows
pub data Mark : Type 0 where
  Plain NoMemory Unavailable : Mark

-- an answer that was released
pub record Given : Type 0 where
  pub mark : Mark
  pub arrival : Arrival
  pub bytes : List ℕ

-- that of an arrival that is refused
abbrev pub refused_given : Mark → Refusal → Arrival → Given
refused_given mark refusal w = record { mark = mark; arrival = w; bytes = refusal_bytes refusal (in_line w) }

-- for a fault of the disk
abbrev pub unavailable : Arrival → Given
unavailable w = refused_given Unavailable refusal.ServiceUnavailable w

-- for want of memory
abbrev pub without_memory : Arrival → Given
without_memory w = refused_given NoMemory refusal.OutOfMemory w

-- an arrival that was executed, by its answer
abbrev pub given_by : Option (List ℕ) → Arrival → Given
given_by (Some bytes) w = record { mark = Plain; arrival = w; bytes = bytes }
given_by None w = without_memory w

-- as it was answered
abbrev pub as_answered : Executed → Given
as_answered x = given_by x.answer x.arrival

-- or refused after all
abbrev pub after_all : Executed → Given
after_all x = unavailable x.arrival

-- what a commit releases, by whether the store was sound, and by its answer
abbrev pub releases : Bool → Answer → Ledger → List Given
releases true Done l = map as_answered l.held
releases true Full l = map after_all l.held
releases true Disk l = map after_all l.held
releases true (NotAStore file) l = map after_all l.held
releases true OutOfMemory l = map after_all l.held
releases false Done l = map as_answered l.held
releases false Full l = map as_answered l.held
releases false Disk l = map as_answered l.held ++ map unavailable (take 64 l.waiting)
releases false (NotAStore file) l = map as_answered l.held
releases false OutOfMemory l = map as_answered l.held ++ map without_memory (take 64 l.waiting)

-- what a step releases: only a commit releases answers
abbrev pub gives : Event → Answer → Ledger → List Given
gives (Opened c) answer l = []
gives (Piece c moment bytes) answer l = []
gives (Ended c) answer l = []
gives Commit answer l = releases l.sound answer l
gives Work answer l = []

-- ---- a story

-- at the opening
abbrev pub opened_ledger : Ledger
opened_ledger = record { held = []; waiting = []; groups = []; undecided = None; sound = true }

-- what a core can hold after a story
abbrev pub ledger : Opening → List Step → Ledger
ledger o [] = opened_ledger
ledger o (s ∷ story) = moves s.event o s (ledger o story)

-- what was released in a story
abbrev pub released : Opening → List Step → List Given
released o [] = []
released o (s ∷ story) = released o story ++ gives s.event s.answer (ledger o story)

-- how many arrivals were
abbrev pub count_released : Opening → List Step → ℕ
count_released o story = length (released o story)

-- what contracts of a line see of an answer that was released
abbrev pub sent_by : Given → Sent
sent_by g = record { conn = (in_line g.arrival).conn; bytes = g.bytes; close = (in_line g.arrival).close }

-- and of one that is held
abbrev pub held_by : Executed → Answered
held_by x = record { queued = in_line x.arrival; answer = x.answer }

-- the arrivals that are held or wait, in order
abbrev pub in_hand : Ledger → List Arrival
in_hand l = map (λ (x : Executed). x.arrival) l.held ++ l.waiting
