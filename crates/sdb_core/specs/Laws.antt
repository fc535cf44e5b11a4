-- The laws of ledgers and stories.
use Rattle.std.specs.Prelude.{◌≡◌, ℕ, ◌≤◌, ◌<◌, ◌++◌, ◌⊎◌, Bool, true, false, min, List, [], length, map}
use Rattle.sdb_arrivals.specs.Connects.{Connects}
use Rattle.sdb_arrivals.specs.Framing.{is_open}
use Rattle.sdb_arrivals.specs.Story.{Commit, Done, Step, came_in}
use Rattle.sdb_arrivals.specs.Tables.{Connections, open_in}
use Rattle.sdb_core.specs.Ledgers.{Given, Ledger, Opening, Plain, changes_in, count_released, filled, gives, in_hand, ledger, moves, released, with_group}
use Rattle.sdb_core.specs.Told.{AreSteps, Marked}

-- all that arrived is released, is held or waits, in order
abbrev pub AllInOrder : Type 0
AllInOrder = (o : Opening) (story : List Step) → AreSteps o story
    → map (λ (g : Given). g.arrival) (released o story) ++ in_hand (ledger o story) ≡ came_in story

-- the lesser of 64 and of all that are in hand are held, once requests were executed
abbrev pub LesserIsHeld : Type 0
LesserIsHeld = (o : Opening) (refused : List Bool) (l : Ledger) → length l.held ≤ 64
    → length (filled o refused l).held ≡ min (length (in_hand l)) 64

-- at most 64 are held
abbrev pub AreFew : Type 0
AreFew = (o : Opening) (story : List Step) → length (ledger o story).held ≤ 64

-- none waits while there is room on a sound store
abbrev pub NoneWaits : Type 0
NoneWaits = (o : Opening) (story : List Step) → (ledger o story).sound ≡ true
    → length (ledger o story).held < 64 → (ledger o story).waiting ≡ []

-- a commit that was done makes what was held durable
pub record MadeDurable (o : Opening) (s : Step) (l : Ledger) : Type 0 where
  pub commit : s.event ≡ Commit
  pub done : s.answer ≡ Done
  pub groups : (moves s.event o s l).groups ≡ with_group (changes_in l.held) l.groups

-- a plain answer leaves by such a commit, or nothing that was held changed anything
abbrev pub PlainIsDurable : Type 0
PlainIsDurable = (o : Opening) (s : Step) (l : Ledger) → (l.sound ≡ false → changes_in l.held ≡ []) → Marked Plain (gives s.event s.answer l)
    → MadeDurable o s l ⊎ ((s.event ≡ Commit) × (changes_in l.held ≡ []))

-- a connection is open in a table that stands for a story exactly where it is open in the story
abbrev pub OpenAsTold : Type 0
OpenAsTold = (o : Opening) (t : Connections) (story : List Step) → Connects (count_released o) t story
    → (conn : ℕ) → open_in conn t.entries ≡ is_open conn story
