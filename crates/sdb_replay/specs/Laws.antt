-- What holds of every story of a run.
use Rattle.std.specs.Prelude.{◌≡◌, ℕ, true, List, [], ◌∷◌, ◌++◌, map, None}
use Rattle.sdb_arrivals.specs.Story.{Answer, Step}
use Rattle.sdb_base.specs.Causes.{Rose}
use Rattle.sdb_core.specs.Ledgers.{Given, Mark, Opening, ledger, released}
use Rattle.sdb_core.specs.Told.{AreSteps, RoseBy, faults_in}
use Rattle.sdb_replay.specs.Events.{happened}
use Rattle.sdb_replay.specs.Shown.{shown}

-- the disk's count didn't rise while a story was made
pub record IsUnharmed (o : Opening) (story : List Step) : Type 0 where
  pub before : ℕ
  pub now : ℕ
  pub told : RoseBy (faults_in o story) before now
  pub none : Rose before now → ⊥

-- where the disk's count didn't rise the store is sound, and of every group it is decided whether it is durable
abbrev pub AllDecided : Type 0
AllDecided = (o : Opening) (story : List Step) → IsUnharmed o story → ((ledger o story).sound ≡ true) × ((ledger o story).undecided ≡ None)

-- how the events of a story were answered, in their order
abbrev pub answers_in : List Step → List Answer
answers_in [] = []
answers_in (s ∷ story) = answers_in story ++ s.answer ∷ []

-- the marks that a story shows: how each answer that it released was come by, in their order
abbrev pub marks : Opening → List Step → List Mark
marks o story = map (λ (g : Given). g.mark) (released o story)

-- stories of the same keys over the same accounts and number
pub record BeginAlike (o other : Opening) : Type 0 where
  pub keys : o.keys ≡ other.keys
  pub accounts : o.accounts ≡ other.accounts
  pub number : o.number ≡ other.number

-- what is shown is a function of keys, files, script and marks, where the disk didn't fail
abbrev pub OneIsShown : Type 0
OneIsShown = (o p : Opening) (story other : List Step) → BeginAlike o p → AreSteps o story → AreSteps p other → IsUnharmed o story → IsUnharmed p other
    → happened story ≡ happened other → answers_in story ≡ answers_in other → marks o story ≡ marks p other
    → shown o story ≡ shown p other
