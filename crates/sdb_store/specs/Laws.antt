-- What holds of all accounts.
use Rattle.sdb_pairs.specs.Accounts.{DomainEntries}
use Rattle.sdb_pairs.specs.Lawful.{AreLawfulAccounts}
use Rattle.sdb_record.specs.Stands.{HasSmallItems}

-- lawful accounts have no item of more than 256 pairs
abbrev pub LawfulAccountsHaveSmallItems : Type 0
LawfulAccountsHaveSmallItems = (accounts : DomainEntries) → AreLawfulAccounts accounts → HasSmallItems accounts
