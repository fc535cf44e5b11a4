-- What holds of the bytes of all changes.
use Rattle.std.specs.Prelude.{◌≡◌, ℕ, List, [], ◌++◌}
use Rattle.sdb_format.specs.Format.{Format}
use Rattle.sdb_pairs.specs.declared.change.Change.{Change}
use Rattle.sdb_pairs.specs.Lawful.{IsLawfulChange, AreLawfulChanges}
use Rattle.sdb_record.specs.Spelling.{change_bytes, spelling}
use Rattle.sdb_record.specs.Entries.{change_at, changes_at}

-- where the spelling of lawful changes begins that of others, the changes are the same
abbrev pub NoSpellingBeginsAnother : Type 0
NoSpellingBeginsAnother = (one other : List Change) (rest : List ℕ) → AreLawfulChanges one → AreLawfulChanges other
    → spelling other ≡ spelling one ++ rest → (other ≡ one) × (rest ≡ [])

-- one change is read exactly
abbrev pub OneChangeIsAFormat : Type 0
OneChangeIsAFormat = Format IsLawfulChange change_bytes change_at

-- changes behind their number are read exactly
abbrev pub ChangesAreAFormat : Type 0
ChangesAreAFormat = Format AreLawfulChanges spelling changes_at
