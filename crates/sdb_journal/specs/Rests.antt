-- What a store's files rest on while its journal grows.
use Rattle.std.specs.Prelude.{◌⊎◌, ℕ, List, Option, None, Some}
use Rattle.sdb_disk.specs.Disk.{Files, State, Image, SettledFile}
use Rattle.sdb_pairs.specs.declared.change.Change.{Change}
use Rattle.sdb_pairs.specs.Accounts.{DomainEntries}
use Rattle.sdb_pairs.specs.Changes.{state}
use Rattle.sdb_record.specs.Journals.{Group, HasGroups, next}
use Rattle.sdb_record.specs.Stands.{Ground, HasGround, StandsFor, journal_of}
use Rattle.sdb_journal.specs.Places.{Place, IsAt}

-- files stand for these accounts; where a group is undecided, for these or for those that it leads to
abbrev pub StandsWith : DomainEntries → ℕ → Option Group → Files → Type 0
StandsWith accounts number None c = StandsFor accounts number c
StandsWith accounts number (Some group) c = StandsFor accounts number c ⊎ StandsFor (state accounts group) (next number) c

-- one base in all that a crash may leave, and a settled journal with these groups on it
pub record Rests (g : Ground) (groups : List Group) (s : State) : Type 0 where
  pub on : (c : Files) → Image s c → HasGround g c
  pub has : HasGroups g.generation g.first groups (s.seen (journal_of g.generation))
  pub settled : SettledFile s (journal_of g.generation)

-- what the journal at that place stands on, after these changes
abbrev pub base_of : Place → List Change → Ground
base_of place changes = record { generation = place.generation; first = place.first; changes = changes }

-- the files rest on that journal, with these groups in it
pub record RestsAt (place : Place) (changes : List Change) (groups : List Group) (s : State) : Type 0 where
  pub rests : Rests (base_of place changes) groups s
  pub at : IsAt place rests.has.bodies (s.seen (journal_of place.generation))
