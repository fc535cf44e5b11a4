-- What reading the bytes of changes gives, and when it is refused.
use Rattle.std.specs.Prelude.{◌≡◌, ◌≢◌, ℕ, List, [], ◌++◌, length, drop}
use Rattle.sdb_pairs.specs.declared.change.Change.{Change}
use Rattle.sdb_pairs.specs.Lawful.{AreLawfulChanges}
use Rattle.sdb_record.specs.Spelling.{spelling}

-- the spelling of these lawful changes stands at the front of the bytes, and is so long
pub record Begin (changes : List Change) (size : ℕ) (bytes : List ℕ) : Type 0 where
  pub lawful : AreLawfulChanges changes
  pub bytes_are : bytes ≡ spelling changes ++ drop size bytes
  pub size_is : size ≡ length (spelling changes)

-- the bytes are a proper front of the spelling of some lawful changes
pub record IsFront (bytes : List ℕ) : Type 0 where
  pub changes : List Change
  pub lawful : AreLawfulChanges changes
  pub more : List ℕ
  pub some : more ≢ []
  pub spelling_is : spelling changes ≡ bytes ++ more

-- the bytes begin with the spelling of no lawful changes, and begin none
pub record IsNone (bytes : List ℕ) : Type 0 where
  pub begin_with_none : (changes : List Change) (rest : List ℕ) → AreLawfulChanges changes → bytes ≢ spelling changes ++ rest
  pub begin_none : (changes : List Change) (more : List ℕ) → AreLawfulChanges changes → spelling changes ≢ bytes ++ more
