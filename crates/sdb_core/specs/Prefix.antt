-- The crash prefix: whatever a crash leaves, at a moment since some step, stands for what was durable after that
-- step or a later one, or during the step that follows it.
use Rattle.std.specs.Prelude.{◌≡◌, ℕ, ◌≤◌, List, [], ◌∷◌, ◌++◌, Option, None, Some, ◌⊎◌}
use Rattle.sdb_arrivals.specs.Story.{Event, Opened, Piece, Ended, Commit, Work, Step}
use Rattle.sdb_disk.specs.Disk.{Files, State}
use Rattle.sdb_journal.specs.Rests.{StandsWith}
use Rattle.sdb_store.specs.Kept.{waiting}
use Rattle.sdb_core.specs.Ledgers.{Ledger, Opening, changes_in, durable, ledger, number}

-- files stand for what is durable; where a group is undecided, for that or for what it leads to
abbrev pub Stands : Opening → Ledger → Files → Type 0
Stands o l c = StandsWith (durable o l.groups) (number o l.groups) l.undecided c

-- files stand for what is durable, or for what a commit of all that is held leads to
abbrev pub StandsAhead : Event → Opening → Ledger → Files → Type 0
StandsAhead Commit o l c = StandsWith (durable o l.groups) (number o l.groups) (waiting (changes_in l.held)) c
StandsAhead (Opened conn) o l c = ⊥
StandsAhead (Piece conn moment bytes) o l c = ⊥
StandsAhead (Ended conn) o l c = ⊥
StandsAhead Work o l c = ⊥

-- files are right after a story, where the step that follows is known or not
abbrev pub Right : Option Step → Opening → List Step → Files → Type 0
Right None o story c = Stands o (ledger o story) c
Right (Some s) o story c = Stands o (ledger o story) c ⊎ StandsAhead s.event o (ledger o story) c

-- files are right after the story, or after one of the later steps
abbrev pub RightSince : Option Step → Opening → List Step → List Step → Files → Type 0
RightSince follows o [] story c = Right follows o story c
RightSince follows o (s ∷ later) story c = Right follows o (s ∷ (later ++ story)) c ⊎ RightSince (Some s) o later story c

-- the disk's moment after a story
abbrev pub moment_after : Opening → List Step → ℕ
moment_after o [] = o.moment
moment_after o (s ∷ story) = s.moment

-- what a crash at any moment since a story left is right after that story or after a later step
pub record IsRightSince (s : State) (o : Opening) (later story : List Step) : Type 0 where
  pub before : moment_after o story ≤ s.moment
  pub right : (c : Files) → s.left_since (moment_after o story) c → RightSince None o later story c

-- the same of every part of a story
abbrev pub CrashPrefix : State → Opening → List Step → Type 0
CrashPrefix s o all = (later story : List Step) → all ≡ later ++ story → IsRightSince s o later story
