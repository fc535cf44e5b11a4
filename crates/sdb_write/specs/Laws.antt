-- What holds of every write.
use Rattle.std.specs.Prelude.{◌≡◌, ℕ, Ok}
use Rattle.sdb_action.specs.declared.request.Request.{Request}
use Rattle.sdb_pairs.specs.Accounts.{DomainEntries, AreAccounts}
use Rattle.sdb_pairs.specs.Changes.{state}
use Rattle.sdb_write.specs.Changes.{changes}
use Rattle.sdb_write.specs.Writes.{write, IsWrite, NamesOnce}

-- where a write gives accounts, they are the state after its changes
abbrev pub WritesAreChanges : Type 0
WritesAreChanges = (accounts new : DomainEntries) (account : ℕ) (request : Request) → IsWrite request → NamesOnce request → AreAccounts accounts
    → write accounts account request ≡ Ok new → state accounts (changes account request) ≡ new

-- the accounts that a write gives stand in order
abbrev pub WritesKeepAccountsRising : Type 0
WritesKeepAccountsRising = (accounts new : DomainEntries) (account : ℕ) (request : Request) → IsWrite request → NamesOnce request → AreAccounts accounts
    → write accounts account request ≡ Ok new → AreAccounts new
