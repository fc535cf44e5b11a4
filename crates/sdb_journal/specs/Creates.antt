-- How the first journal is made, and what a crash leaves meanwhile.
use Rattle.std.specs.Prelude.{◌≡◌, ◌≢◌, ◌≤◌, ℕ, [], length, slice_index, IsTrue}
use Rattle.sdb_disk.specs.Disk.{Files, State, Image, SettledFile, SameFile}
use Rattle.sdb_pairs.specs.Accounts.{DomainEntries}
use Rattle.sdb_record.specs.Journals.{IsClosed, Stands, JournalHas}
use Rattle.sdb_record.specs.Stands.{StandsFor}
use Rattle.sdb_journal.specs.Places.{Place, IsAt}

-- the first journal has no records, or isn't there yet; the other files are as they may have been
pub record Makes (old : State) (c : Files) : Type 0 where
  pub own : JournalHas 0 0 [] (c 2)
  pub others : (k : ℕ) → k ≢ 2 → old.may_leave k (c k)

-- there is a byte for the gate of the first journal's file, which isn't open
pub record Shuts (old new : State) : Type 0 where
  pub some : IsTrue old.told → 1 ≤ length (new.seen 2)
  pub shut : IsTrue old.told → slice_index (new.seen 2) 0 ≢ 1
  pub settled : SettledFile new 2
  pub others : (k : ℕ) → k ≢ 2 → SameFile old new k

-- the first journal's file has no records, for certain
pub record Made (old new : State) : Type 0 where
  pub stands : IsTrue old.told → Stands 0 0 [] (new.seen 2)
  pub settled : SettledFile new 2
  pub others : (k : ℕ) → k ≢ 2 → SameFile old new k

-- this is the first journal, without records
pub record Created (place : Place) (old new : State) : Type 0 where
  pub generation_is : place.generation ≡ 0
  pub first_is : place.first ≡ 0
  pub at : IsTrue old.told → IsAt place [] (new.seen 2)
  pub settled : SettledFile new 2
  pub others : (k : ℕ) → k ≢ 2 → SameFile old new k

-- whatever a crash leaves stands for these accounts and this number, without a checkpoint
pub record StandOn (accounts : DomainEntries) (number : ℕ) (s : State) : Type 0 where
  pub stand : (c : Files) → Image s c → StandsFor accounts number c
  pub first_checkpoint : (c : Files) → Image s c → IsClosed 33 (c 0)
  pub second_checkpoint : (c : Files) → Image s c → IsClosed 33 (c 1)
