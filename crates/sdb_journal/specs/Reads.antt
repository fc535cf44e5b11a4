-- The records of a journal as they are read, one after the other.
use Rattle.std.specs.Prelude.{◌≡◌, ◌≢◌, ℕ, ◌+◌, List, [], ◌∷◌, ◌++◌, length, drop}
use Rattle.sdb_pairs.specs.declared.change.Change.{Change}
use Rattle.sdb_record.specs.Journals.{Group, IsGroup, Spell, HasGroups, blocks, entry, next}
use Rattle.sdb_record.specs.Stands.{all_of, journal_of}
use Rattle.sdb_journal.specs.Places.{Place, IsAt, number_after}

-- the bytes are records of these groups after the one with number n, up to a gate that isn't open
pub record Reads (n : ℕ) (groups : List Group) (bytes : List ℕ) : Type 0 where
  pub bodies : List (List ℕ)
  pub spelled : Spell groups bodies
  pub gate : ℕ
  pub rest : List ℕ
  pub bytes_are : bytes ≡ blocks n bodies ++ (gate ∷ rest)
  pub closed : gate ≢ 1

-- the bytes are records of no groups
abbrev pub NoRecords : ℕ → List ℕ → Type 0
NoRecords n bytes = (groups : List Group) → Reads n groups bytes → ⊥

-- a gate that isn't open stands there
pub record IsShut (bytes : List ℕ) : Type 0 where
  pub gate : ℕ
  pub rest : List ℕ
  pub bytes_are : bytes ≡ gate ∷ rest
  pub closed : gate ≢ 1

-- one record of these changes stands between two places
pub record OneRecord (n : ℕ) (changes : List Change) (start end : ℕ) (bytes rest : List ℕ) : Type 0 where
  pub body : List ℕ
  pub is_group : IsGroup changes body
  pub bytes_are : bytes ≡ 1 ∷ (entry (next n) body ++ rest)
  pub end_is : end ≡ start + (13 + length body)

-- records with these changes stand between two places
pub record Passed (first : ℕ) (changes : List Change) (start end sequence : ℕ) (bytes rest : List ℕ) : Type 0 where
  pub groups : List Group
  pub bodies : List (List ℕ)
  pub spelled : Spell groups bodies
  pub changes_are : changes ≡ all_of groups
  pub bytes_are : bytes ≡ blocks first bodies ++ rest
  pub end_is : end ≡ start + length (blocks first bodies)
  pub sequence_is : sequence ≡ number_after first bodies

-- the journal stands at that place of the file, and these are the changes of all its records
pub record Started (place : Place) (changes : List Change) (file : List ℕ) : Type 0 where
  pub groups : List Group
  pub has : HasGroups place.generation place.first groups file
  pub at : IsAt place has.bodies file
  pub changes_are : changes ≡ all_of groups

-- the file is no journal that belongs into it
abbrev pub IsBadJournal : ℕ → List ℕ → Type 0
IsBadJournal k file = (generation first : ℕ) (groups : List Group) → journal_of generation ≡ k → HasGroups generation first groups file → ⊥
