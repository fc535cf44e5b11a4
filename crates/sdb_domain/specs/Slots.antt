-- The domains of one account as they are kept, and the accounts as one list.
use Rattle.std.specs.Prelude.{◌≡◌, ℕ, zero, suc, ◌+◌, List, [], ◌∷◌, ◌++◌, length, map, Option, Some, None, IfSome, Bool, false, not, is_some}
use Rattle.std.specs.List.{sum_by}
use Rattle.sdb_base.specs.Texts.{text_cmp}
use Rattle.sdb_pairs.specs.declared.change.Change.{Change}
use Rattle.sdb_pairs.specs.declared.change.Change.TheVariants.{MakeDomain, DropDomain, Edit}
use Rattle.sdb_pairs.specs.Accounts.{ItemEntries, DomainEntries, AreAccounts}
use Rattle.sdb_base.specs.Entries.{found, IsRising}
use Rattle.sdb_domain.specs.declared.slot.Slot.{Slot}
use Rattle.sdb_domain.specs.declared.slot.Slot.TheVariants.{Settled, Open, Dropped}
use Rattle.sdb_domain.specs.Held.{items_kept}
use Rattle.sdb_domain.specs.Keyed.{seen}
use Rattle.sdb_domain.specs.Weights.{domain_weight}

-- domain names with what is kept of them
abbrev pub Slots : Type 0
Slots = List (List ℕ × Slot)

-- domain names with their items
abbrev pub Domains : Type 0
Domains = List (List ℕ × ItemEntries)

-- the items that a slot shows: none where its domain was dropped
abbrev pub shown : Slot → Option ItemEntries
shown (Settled items) = Some items
shown (Open opening) = Some (items_kept opening.kept)
shown Dropped = None

-- the domains that are seen
abbrev pub domains_shown : Slots → Domains
domains_shown slots = seen shown slots

-- an account as it is kept
pub record AccountKept : Type 0 where
  pub slots : Slots
  pub count : ℕ
  pub weight : ℕ

-- an account without domains
abbrev pub no_account : AccountKept
no_account = record { slots = []; count = 0; weight = 0 }

-- the weight of a domain with its name
abbrev pub weight_of_domain : List ℕ × ItemEntries → ℕ
weight_of_domain domain = domain_weight domain.1

-- how many domains that is, and what they weigh
abbrev pub count_shown : Option ItemEntries → ℕ
count_shown None = 0
count_shown (Some items) = 1

-- the weight of a domain that may be absent
abbrev pub weight_shown : Option ItemEntries → ℕ
weight_shown None = 0
weight_shown (Some items) = domain_weight items

-- names rise, and the sums are those of the domains that are seen
pub record IsWholeAccount (account : AccountKept) : Type 0 where
  pub rise : IsRising text_cmp account.slots
  pub count : account.count ≡ length (domains_shown account.slots)
  pub weight : account.weight ≡ sum_by weight_of_domain (domains_shown account.slots)

-- whether a change leaves the slot as it is: a domain that is there is made, or one that isn't is dropped
abbrev pub stays : Slot → Change → Bool
stays slot (MakeDomain account domain) = is_some (shown slot)
stays slot (DropDomain account domain) = not (is_some (shown slot))
stays slot (Edit account domain item ops) = false

-- the slot is neither open to edits nor dropped
abbrev pub IsSettled : Slot → Type 0
IsSettled (Settled items) = Unit {0}
IsSettled (Open opening) = ⊥
IsSettled Dropped = ⊥

-- no slot is open or dropped
abbrev pub AreSettled : Slots → Type 0
AreSettled slots = (name : List ℕ) → IfSome (found text_cmp slots name) IsSettled

-- the domains of accounts numbered from `n`, as one list
abbrev pub numbered : ℕ → List Domains → DomainEntries
numbered n [] = []
numbered n (domains ∷ more) = map (λ domain. ((n, domain.0), domain.1)) domains ++ numbered (n + 1) more

-- the flat list of all accounts
abbrev pub accounts_shown : List AccountKept → DomainEntries
accounts_shown accounts = numbered 1 (map (λ account. domains_shown account.slots) accounts)

-- one account in 16
abbrev pub account_at : List AccountKept → ℕ → AccountKept
account_at [] n = no_account
account_at (account ∷ more) zero = account
account_at (account ∷ more) (suc n) = account_at more n

-- what is kept is right: no slot is open or dropped, and the list is one of accounts
pub record AreKept (accounts : List AccountKept) : Type 0 where
  pub settled : (i : ℕ) → AreSettled (account_at accounts i).slots
  pub lawful : AreAccounts (accounts_shown accounts)
