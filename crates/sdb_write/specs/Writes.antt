-- What a write makes of the accounts: the first refusal, or the new accounts.
use Rattle.std.specs.Prelude.{ℕ, List, [], ◌∷◌, Option, Some, None, Result, Ok, Err, map, length, if◌then◌else◌}
use Rattle.sdb_action.specs.declared.request.Expect.{Expect}
use Rattle.sdb_action.specs.declared.request.Request.{Request}
use Rattle.sdb_action.specs.declared.request.Request.TheVariants.{CreateDomain, DeleteDomain, Put, BatchPut, Delete, BatchDelete}
use Rattle.sdb_pairs.specs.Accounts.{ItemEntries, DomainEntries, domain_cmp, items_of, has_domain, pairs_at}
use Rattle.sdb_pairs.specs.Changes.{items_or_none}
use Rattle.sdb_base.specs.Entries.{placed}
use Rattle.sdb_tables.specs.declared.refusal.Refusal.{Refusal}
use Rattle.sdb_tables.specs.declared.refusal.Refusal.TheVariants.{NoSuchDomain, ConditionalCheckFailed, AttributeDoesNotExist, MultiValuedAttribute, NumberItemAttributesExceeded, NumberDomainAttributesExceeded, NumberDomainBytesExceeded, NumberDomainsExceeded, OutOfMemory}
use Rattle.sdb_write.specs.Expectation.{unmet}
use Rattle.sdb_write.specs.ItemWrites.{ItemWrite, put_write, drop_write, items_written, NamesApart}
use Rattle.sdb_write.specs.Limits.{first_of, broken_limit}

-- the accounts with these items in the domain
abbrev pub with_items : DomainEntries → ℕ → List ℕ → ItemEntries → DomainEntries
with_items accounts account domain items = placed domain_cmp accounts (account, domain) (Some items)

-- the accounts with their items written in one domain
abbrev pub domain_written : DomainEntries → ℕ → List ℕ → List ItemWrite → DomainEntries
domain_written accounts account domain writes = with_items accounts account domain (items_written (items_or_none accounts account domain) writes)

-- the accounts that a write leaves: a domain that is made has no items unless it was there, and one that is deleted goes with its items. A request that reads leaves them as they are.
abbrev pub written : DomainEntries → ℕ → Request → DomainEntries
written accounts account (CreateDomain domain) = if has_domain accounts account domain then accounts else with_items accounts account domain []
written accounts account (DeleteDomain domain) = placed domain_cmp accounts (account, domain) None
written accounts account (Put domain item expect) = domain_written accounts account domain (put_write item ∷ [])
written accounts account (BatchPut domain items) = domain_written accounts account domain (map put_write items)
written accounts account (Delete domain item expect) = domain_written accounts account domain (drop_write item ∷ [])
written accounts account (BatchDelete domain items) = domain_written accounts account domain (map drop_write items)
written accounts account _ = accounts

-- the refusal of a write in a domain of these items: the domain has to be there, and then the item has to be as expected
abbrev pub item_refusal : Option ItemEntries → List ℕ → Option Expect → Option Refusal
item_refusal None item expect = Some NoSuchDomain
item_refusal (Some items) item expect = unmet expect (pairs_at items item)

-- a batch expects nothing of its items
abbrev pub batch_refusal : Option ItemEntries → Option Refusal
batch_refusal None = Some NoSuchDomain
batch_refusal (Some items) = None

-- the refusal of a write by the accounts as they are
abbrev pub present_refusal : DomainEntries → ℕ → Request → Option Refusal
present_refusal accounts account (Put domain item expect) = item_refusal (items_of accounts account domain) item.name expect
present_refusal accounts account (BatchPut domain items) = batch_refusal (items_of accounts account domain)
present_refusal accounts account (Delete domain item expect) = item_refusal (items_of accounts account domain) item.name expect
present_refusal accounts account (BatchDelete domain items) = batch_refusal (items_of accounts account domain)
present_refusal accounts account _ = None

-- the refusal of a write by the limits, over the accounts that it would leave. Nothing that deletes is refused for a limit.
abbrev pub limit_refusal : DomainEntries → ℕ → Request → Option Refusal
limit_refusal accounts account (CreateDomain domain) = broken_limit accounts (written accounts account (CreateDomain domain)) account domain []
limit_refusal accounts account (Put domain item expect) = broken_limit accounts (written accounts account (Put domain item expect)) account domain (item.name ∷ [])
limit_refusal accounts account (BatchPut domain items) = broken_limit accounts (written accounts account (BatchPut domain items)) account domain (map (λ item. item.name) items)
limit_refusal accounts account _ = None

-- the first refusal of a write: the limits come last
abbrev pub refusal_of : DomainEntries → ℕ → Request → Option Refusal
refusal_of accounts account request = first_of (present_refusal accounts account request) (limit_refusal accounts account request)

-- the value, unless there is a refusal
abbrev pub unless : {A : Type 0} → Option Refusal → A → Result A Refusal
unless None value = Ok value
unless (Some refusal) value = Err refusal

-- the first refusal of a write, or the new accounts
abbrev pub write : DomainEntries → ℕ → Request → Result DomainEntries Refusal
write accounts account request = unless (refusal_of accounts account request) (written accounts account request)

-- one of the six requests that write
abbrev pub IsWrite : Request → Type 0
IsWrite (CreateDomain domain) = Unit {0}
IsWrite (DeleteDomain domain) = Unit {0}
IsWrite (Put domain item expect) = Unit {0}
IsWrite (BatchPut domain items) = Unit {0}
IsWrite (Delete domain item expect) = Unit {0}
IsWrite (BatchDelete domain items) = Unit {0}
IsWrite _ = ⊥

-- a batch names each item once
abbrev pub NamesOnce : Request → Type 0
NamesOnce (BatchPut domain items) = NamesApart (map put_write items)
NamesOnce (BatchDelete domain items) = NamesApart (map drop_write items)
NamesOnce _ = Unit {0}

-- how many items a decision looks at, at most
abbrev pub named_items : Request → ℕ
named_items (Put domain item expect) = 1
named_items (BatchPut domain items) = length items
named_items (Delete domain item expect) = 1
named_items _ = 0

-- the refusals of a write, and want of memory
abbrev pub IsWriteRefusal : Refusal → Type 0
IsWriteRefusal NoSuchDomain = Unit {0}
IsWriteRefusal ConditionalCheckFailed = Unit {0}
IsWriteRefusal AttributeDoesNotExist = Unit {0}
IsWriteRefusal MultiValuedAttribute = Unit {0}
IsWriteRefusal (NumberItemAttributesExceeded count) = Unit {0}
IsWriteRefusal (NumberDomainAttributesExceeded count) = Unit {0}
IsWriteRefusal (NumberDomainBytesExceeded weight) = Unit {0}
IsWriteRefusal (NumberDomainsExceeded count) = Unit {0}
IsWriteRefusal OutOfMemory = Unit {0}
IsWriteRefusal _ = ⊥
