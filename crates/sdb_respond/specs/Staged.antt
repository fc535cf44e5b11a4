-- The changes of an arrival can be staged.
use Rattle.std.specs.Prelude.{ℕ, ◌≤◌, List, length, All}
use Rattle.sdb_arrivals.specs.Reading.{IsRead}
use Rattle.sdb_arrivals.specs.Story.{Arrival}
use Rattle.sdb_keys.specs.declared.keys.Key.{Key}
use Rattle.sdb_pairs.specs.Accounts.{AreAccounts, DomainEntries}
use Rattle.sdb_pairs.specs.Changes.{state}
use Rattle.sdb_pairs.specs.Lawful.{AreLawfulChanges, IsAccount}
use Rattle.sdb_pairs.specs.declared.change.Change.{Change}
use Rattle.sdb_record.specs.Spelling.{spelling}
use Rattle.sdb_record.specs.Stands.{HasSmallItems}
use Rattle.sdb_respond.specs.Reply.{reply}

-- the spelling of the changes of one arrival has at most so many bytes, and that of 64 fits into one record
abbrev pub most_spelled : ℕ
most_spelled = 33554432

-- what a store needs of the changes that it stages over these accounts
pub record CanBeStaged (accounts : DomainEntries) (changes : List Change) : Type 0 where
  pub lawful : AreLawfulChanges changes
  pub short : length (spelling changes) ≤ most_spelled
  pub small : HasSmallItems accounts → HasSmallItems (state accounts changes)

-- the changes of what was read under keys of accounts can be staged over accounts in order
abbrev pub ReadsAreLawful : Type 0
ReadsAreLawful = (keys : List Key) (accounts : DomainEntries) (w : Arrival) → All (λ (key : Key). IsAccount key.account) keys
    → AreAccounts accounts → IsRead keys w.framed w.read → CanBeStaged accounts (reply accounts w).1
