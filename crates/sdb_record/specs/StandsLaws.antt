-- What holds of what files stand for.
use Rattle.std.specs.Prelude.{◌≡◌, ◌⊎◌, ℕ, ◌<◌, List, []}
use Rattle.sdb_disk.specs.Disk.{Files}
use Rattle.sdb_pairs.specs.Accounts.{DomainEntries}
use Rattle.sdb_record.specs.Journals.{Group, JournalHas, last}
use Rattle.sdb_record.specs.Stands.{Ground, HasGround, StandsFor, SameBut, journal_of, reached, AreFine, IsFirstBad, LeadsTooFar}

-- what a journal stands on doesn't change with the journal
abbrev pub GroundStays : Type 0
GroundStays = (g : Ground) (c d : Files) → SameBut (journal_of g.generation) c d → HasGround g c → HasGround g d

-- files stand for one accounts and one number
abbrev pub StandForOne : Type 0
StandForOne = (c : Files) (a b : DomainEntries) (n m : ℕ) → StandsFor a n c → StandsFor b m c → (a ≡ b) × (n ≡ m)

-- any groups that a journal has on its base lead to what the files stand for
abbrev pub GroupsLeadThere : Type 0
GroupsLeadThere = (c : Files) (a : DomainEntries) (n : ℕ) (g : Ground) (groups : List Group) → StandsFor a n c → HasGround g c
    → JournalHas g.generation g.first groups (c (journal_of g.generation)) → (a ≡ reached g groups) × (n ≡ last g.first groups)

-- files that stand for accounts have no first bad file
abbrev pub NoneIsBad : Type 0
NoneIsBad = (c : Files) (a : DomainEntries) (n k : ℕ) → StandsFor a n c → IsFirstBad k c → ⊥

-- files have one first bad file at most
abbrev pub OneIsFirstBad : Type 0
OneIsFirstBad = (c : Files) (j k : ℕ) → j < 4 → k < 4 → IsFirstBad j c → IsFirstBad k c → j ≡ k

-- files that break no rule stand for accounts, where what they lead to has no item of more than 256 pairs
abbrev pub FineFilesStand : Type 0
FineFilesStand = (c : Files) → AreFine c → ((a : DomainEntries) × (n : ℕ) × StandsFor a n c) ⊎ LeadsTooFar 2 c

-- four empty files stand for no domain and the number 0
abbrev pub EmptyFilesStand : Type 0
EmptyFilesStand = StandsFor [] 0 (λ k. [])
