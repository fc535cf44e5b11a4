-- What one request comes to over the accounts: its outcome, its changes, and the accounts after it.
use Rattle.std.specs.Prelude.{◌≡◌, ℕ, List, [], Result, Ok, Err}
use Rattle.sdb_action.specs.declared.action.Action.{Action}
use Rattle.sdb_action.specs.declared.action.Action.TheVariants as action
use Rattle.sdb_action.specs.declared.request.Request.{Request}
use Rattle.sdb_action.specs.declared.request.Request.TheVariants.{CreateDomain, DeleteDomain, ListDomains, DomainMetadata, Put, BatchPut, Get, Delete, BatchDelete, Select}
use Rattle.sdb_pairs.specs.Accounts.{DomainEntries, items_of, AreAccounts}
use Rattle.sdb_pairs.specs.Changes.{state}
use Rattle.sdb_pairs.specs.declared.change.Change.{Change}
use Rattle.sdb_tables.specs.declared.refusal.Refusal.{Refusal}
use Rattle.sdb_write.specs.Changes.{decision}
use Rattle.sdb_write.specs.Writes.{write, NamesOnce}
use Rattle.sdb_reply.specs.declared.outcome.Outcome.{Outcome}
use Rattle.sdb_reply.specs.declared.outcome.Outcome.TheVariants.{Done, Refused}
use Rattle.sdb_answer.specs.Described.{described}
use Rattle.sdb_answer.specs.Gets.{got}
use Rattle.sdb_answer.specs.Listing.{listed, listed_after}
use Rattle.sdb_answer.specs.Selecting.{bound_in, looks_in, number_of, selected}

-- the outcome of a write, by what it makes of the accounts
abbrev pub written : Action → Result DomainEntries Refusal → Outcome
written action (Ok accounts) = Done action
written action (Err refusal) = Refused refusal

-- the outcome of a request over the accounts, for an account and at a moment
abbrev pub outcome : DomainEntries → (account moment : ℕ) → Request → Outcome
outcome accounts account moment (CreateDomain domain) = written action.CreateDomain (write accounts account (CreateDomain domain))
outcome accounts account moment (DeleteDomain domain) = written action.DeleteDomain (write accounts account (DeleteDomain domain))
outcome accounts account moment (ListDomains most token) = listed accounts account most (listed_after token)
outcome accounts account moment (DomainMetadata domain) = described (items_of accounts account domain) moment
outcome accounts account moment (Put domain item expect) = written action.PutAttributes (write accounts account (Put domain item expect))
outcome accounts account moment (BatchPut domain items) = written action.BatchPutAttributes (write accounts account (BatchPut domain items))
outcome accounts account moment (Get domain item names) = got (items_of accounts account domain) item names
outcome accounts account moment (Delete domain item expect) = written action.DeleteAttributes (write accounts account (Delete domain item expect))
outcome accounts account moment (BatchDelete domain items) = written action.BatchDeleteAttributes (write accounts account (BatchDelete domain items))
outcome accounts account moment (Select expression token) = selected accounts account expression token

-- the changes that were decided, none where the request is refused
abbrev pub unless_refused : Result (List Change) Refusal → List Change
unless_refused (Ok changes) = changes
unless_refused (Err refusal) = []

-- the changes of a request: those of a write that is done, and else none
abbrev pub changes_of : DomainEntries → ℕ → Request → List Change
changes_of accounts account request = unless_refused (decision accounts account request)

-- the accounts that a write leaves, or those that were where it is refused
abbrev pub left_by : Result DomainEntries Refusal → DomainEntries → DomainEntries
left_by (Ok new) accounts = new
left_by (Err refusal) accounts = accounts

-- the accounts after a request
abbrev pub after : DomainEntries → ℕ → Request → DomainEntries
after accounts account request = left_by (write accounts account request) accounts

-- how many items a Select is thought to look at; 0 for every other request
abbrev pub bound_of : DomainEntries → (account : ℕ) → Request → ℕ
bound_of accounts account (Select expression token) = number_of bound_in accounts account expression token
bound_of accounts account _ = 0

-- how many items are looked at, at most: those of its domain for a Select, and one for a get
abbrev pub looks_of : DomainEntries → (account : ℕ) → Request → ℕ
looks_of accounts account (Get domain item names) = 1
looks_of accounts account (Select expression token) = number_of looks_in accounts account expression token
looks_of accounts account _ = 0

-- the changes of a request lead from accounts in order to the accounts after it
abbrev pub ChangesLeadAfter : Type 0
ChangesLeadAfter = (accounts : DomainEntries) (account : ℕ) (request : Request) → AreAccounts accounts → NamesOnce request
    → state accounts (changes_of accounts account request) ≡ after accounts account request
