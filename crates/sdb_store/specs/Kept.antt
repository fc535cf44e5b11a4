-- What a store keeps: the accounts and the number that its files stand for, whatever a crash leaves.
use Rattle.std.specs.Prelude.{◌≡◌, ◌⊎◌, ℕ, Bool, IsTrue, List, [], ◌∷◌, Option, None, Some}
use Rattle.sdb_disk.specs.Disk.{Files, State, Image, SettledFile}
use Rattle.sdb_pairs.specs.declared.change.Change.{Change}
use Rattle.sdb_pairs.specs.Accounts.{DomainEntries}
use Rattle.sdb_pairs.specs.Changes.{state}
use Rattle.sdb_record.specs.Journals.{Group, next}
use Rattle.sdb_record.specs.Stands.{StandsFor, journal_of}
use Rattle.sdb_journal.specs.Places.{Place}
use Rattle.sdb_journal.specs.Rests.{StandsWith, RestsAt}

-- what contracts see of a store: its journal, the accounts after the pending group, the group, and whether it is sound
pub record Contents : Type 0 where
  pub journal : Place
  pub accounts : DomainEntries
  pub pending : Group
  pub sound : Bool

-- a group that a crash may have left or not: none where nothing waits
abbrev pub waiting : Group → Option Group
waiting [] = None
waiting (change ∷ more) = Some (change ∷ more)

-- the number after the group, which doesn't count where nothing waits
abbrev pub number_with : Group → ℕ → ℕ
number_with [] number = number
number_with (change ∷ more) number = next number

-- The store keeps these accounts and this number: whatever a crash leaves stands for them, or, where a group is undecided,
-- for what that leads to. A sound store has no undecided group, and its accounts are those after the pending one.
pub record Keeps (v : Contents) (s : State) (accounts : DomainEntries) (number : ℕ) (undecided : Option Group) : Type 0 where
  pub number_is : v.journal.sequence ≡ number
  pub images : (c : Files) → Image s c → StandsWith accounts number undecided c
  pub sound : IsTrue v.sound → (undecided ≡ None) × (v.accounts ≡ state accounts v.pending)

-- the files rest on the journal
pub record Resting (place : Place) (s : State) : Type 0 where
  pub changes : List Change
  pub groups : List Group
  pub at : RestsAt place changes groups s

-- what the next call of the journal needs of the disk
pub record Fits (place : Place) (s : State) : Type 0 where
  pub settled : SettledFile s (journal_of place.generation)
  pub rests : IsTrue s.told → Resting place s

-- what the next call of the store needs: nothing where it isn't sound
abbrev pub Ready : Contents → State → Type 0
Ready v s = IsTrue v.sound → Fits v.journal s

-- after a reopening an undecided group counts or doesn't
abbrev pub Decides : Contents → State → DomainEntries → ℕ → Option Group → Type 0
Decides v s accounts number None = Keeps v s accounts number None
Decides v s accounts number (Some group) = Keeps v s accounts number None ⊎ Keeps v s (state accounts group) (next number) None
