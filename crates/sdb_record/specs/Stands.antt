-- What the four files of a store stand for. The journal that is applied last stands on a base: its generation, the
-- number before its first record, and the changes before that record.
use Rattle.std.specs.Prelude.{◌≡◌, ◌≢◌, ◌⊎◌, ℕ, zero, suc, ◌+◌, ◌%◌, ◌<◌, Bool, false, IsTrue, nat_le, List, [], ◌++◌, length}
use Rattle.std.specs.List.{flat_map, list_all}
use Rattle.std.specs.Map.{values_of}
use Rattle.sdb_disk.specs.Disk.{Files}
use Rattle.sdb_pairs.specs.declared.change.Change.{Change}
use Rattle.sdb_pairs.specs.Accounts.{DomainEntries}
use Rattle.sdb_pairs.specs.Changes.{state}
use Rattle.sdb_record.specs.Journals.{Group, IsClosed, HasGroups, JournalHas, last}

-- the files of a generation
abbrev pub snap_of : ℕ → ℕ
snap_of generation = generation % 2

-- and its journal
abbrev pub journal_of : ℕ → ℕ
journal_of generation = 2 + generation % 2

-- what a journal stands on
pub record Ground : Type 0 where
  pub generation : ℕ
  pub first : ℕ
  pub changes : List Change

-- that of the first journal
abbrev pub no_ground : Ground
no_ground = record { generation = 0; first = 0; changes = [] }

-- the files that aren't the journal's say that it stands on this base
pub record HasGround (g : Ground) (c : Files) : Type 0 where
  pub none : g ≡ no_ground
  pub first_checkpoint : IsClosed 33 (c 0)
  pub second_checkpoint : IsClosed 33 (c 1)
  pub other_journal : IsClosed 26 (c 3)

-- the changes of groups, one after the other
abbrev pub all_of : List Group → List Change
all_of groups = flat_map (λ group. group) groups

-- the accounts that the groups lead to
abbrev pub reached : Ground → List Group → DomainEntries
reached g groups = state [] (g.changes ++ all_of groups)

-- no item has more than 256 pairs
abbrev pub has_small_items : DomainEntries → Bool
has_small_items accounts = list_all (λ items. list_all (λ pairs. nat_le (length pairs) 256) (values_of items)) (values_of accounts)

-- the same as a proposition
abbrev pub HasSmallItems : DomainEntries → Type 0
HasSmallItems accounts = IsTrue (has_small_items accounts)

-- the files stand for these accounts, and for the number of the last record
pub record StandsFor (accounts : DomainEntries) (number : ℕ) (c : Files) : Type 0 where
  pub base : Ground
  pub on : HasGround base c
  pub groups : List Group
  pub journal : JournalHas base.generation base.first groups (c (journal_of base.generation))
  pub accounts_are : accounts ≡ reached base groups
  pub number_is : number ≡ last base.first groups
  pub small : HasSmallItems accounts

-- the files are the same but for one
abbrev pub SameBut : ℕ → Files → Files → Type 0
SameBut k c d = (j : ℕ) → j ≢ k → c j ≡ d j

-- a file breaks no rule
abbrev pub IsFine : Files → ℕ → Type 0
IsFine c zero = IsClosed 33 (c 0)
IsFine c (suc zero) = IsClosed 33 (c 1)
IsFine c (suc (suc zero)) = IsClosed 26 (c 2) ⊎ ((groups : List Group) × HasGroups 0 0 groups (c 2))
IsFine c (suc (suc (suc k))) = IsClosed 26 (c 3)

-- no file breaks a rule
abbrev pub AreFine : Files → Type 0
AreFine c = (k : ℕ) → k < 4 → IsFine c k

-- the first file that breaks a rule
pub record BreaksFirst (k : ℕ) (c : Files) : Type 0 where
  pub bad : IsFine c k → ⊥
  pub first : (j : ℕ) → j < k → IsFine c j

-- each file is fine, and yet the accounts reached have an item of more than 256 pairs; the journal applied last is bad
pub record LeadsTooFar (k : ℕ) (c : Files) : Type 0 where
  pub fine : AreFine c
  pub groups : List Group
  pub journal : JournalHas 0 0 groups (c 2)
  pub large : has_small_items (reached no_ground groups) ≡ false
  pub last_applied : k ≡ 2

-- the file for which the files stand for nothing: the first bad one
abbrev pub IsFirstBad : ℕ → Files → Type 0
IsFirstBad k c = BreaksFirst k c ⊎ LeadsTooFar k c
