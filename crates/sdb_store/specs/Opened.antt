-- What an opening finds in the files, and what a crash during it leaves.
use Rattle.std.specs.Prelude.{◌≡◌, ◌<◌, ℕ, IsTrue, List, Option, None, Some}
use Rattle.sdb_disk.specs.Disk.{Files, State, Image}
use Rattle.sdb_pairs.specs.declared.change.Change.{Change}
use Rattle.sdb_pairs.specs.Accounts.{DomainEntries}
use Rattle.sdb_record.specs.Journals.{IsClosed}
use Rattle.sdb_record.specs.Stands.{IsFirstBad, StandsFor}
use Rattle.sdb_journal.specs.Places.{Place}
use Rattle.sdb_journal.specs.Reads.{Started}

-- files stand for what the others stood for
abbrev pub StandsForSame : Files → Files → Type 0
StandsForSame before c = (accounts : DomainEntries) (number : ℕ) → StandsFor accounts number before → StandsFor accounts number c

-- files stand for what some files stood for that a crash might have left before
pub record StandsAsBefore (old : State) (c : Files) : Type 0 where
  pub before : Files
  pub was : Image old before
  pub same : StandsForSame before c

-- the files that aren't the first journal are closed
pub record OthersClosed (c : Files) : Type 0 where
  pub first_checkpoint : IsClosed 33 (c 0)
  pub second_checkpoint : IsClosed 33 (c 1)
  pub other_journal : IsClosed 26 (c 3)

-- the first journal, and the changes of its records
pub record FirstRead (place : Place) (changes : List Change) (file : List ℕ) : Type 0 where
  pub started : Started place changes file
  pub generation_is : place.generation ≡ 0
  pub first_is : place.first ≡ 0

-- a bad file of a disk: one of the four, and, where the disk tells what its files are, the first of them that is bad
abbrev pub IsBadFile : ℕ → State → Type 0
IsBadFile k s = (k < 4) × (IsTrue s.told → IsFirstBad k s.seen)
