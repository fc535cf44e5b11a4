-- Accounts as one list of domains, a domain as a list of items, an item as a list of pairs.
use Rattle.std.specs.Prelude.{◌≢◌, ℕ, Bool, List, [], All, is_some, unwrap_or, Option}
use Rattle.std.specs.declared.cmp.Ordering.{Ordering}
use Rattle.std.specs.Ordering.{nat_cmp, ordering_then}
use Rattle.std.specs.Map.{values_of}
use Rattle.std.specs.List.Sorted.{IsStrictlySortedBy}
use Rattle.sdb_base.specs.Texts.{text_cmp}
use Rattle.sdb_pairs.specs.declared.pair.Pair.{Pair}
use Rattle.sdb_base.specs.Entries.{found, IsRising}
use Rattle.sdb_pairs.specs.Pairs.{pair_cmp}

-- item names with their pairs
abbrev pub ItemEntries : Type 0
ItemEntries = List (List ℕ × List Pair)

-- accounts and domain names with their items
abbrev pub DomainEntries : Type 0
DomainEntries = List ((ℕ × List ℕ) × ItemEntries)

-- domains stand by account and then by name
abbrev pub domain_cmp : (ℕ × List ℕ) → (ℕ × List ℕ) → Ordering
domain_cmp a b = ordering_then (nat_cmp a.0 b.0) (text_cmp a.1 b.1)

-- the items of a domain, where it is there
abbrev pub items_of : DomainEntries → ℕ → List ℕ → Option ItemEntries
items_of accounts account domain = found domain_cmp accounts (account, domain)

-- whether the domain is there
abbrev pub has_domain : DomainEntries → ℕ → List ℕ → Bool
has_domain accounts account domain = is_some (items_of accounts account domain)

-- the pairs under an item name, none where there is no such item
abbrev pub pairs_at : ItemEntries → List ℕ → List Pair
pairs_at items name = unwrap_or (found text_cmp items name) []

-- the pairs of one item of one domain
abbrev pub pairs_of : DomainEntries → ℕ → List ℕ → List ℕ → List Pair
pairs_of accounts account domain item = pairs_at (unwrap_or (items_of accounts account domain) []) item

-- an item's pairs: not empty, and strictly rising
pub record IsItem (pairs : List Pair) : Type 0 where
  pub some : pairs ≢ []
  pub rising : IsStrictlySortedBy pair_cmp pairs

-- a domain's items: names strictly rising, and each an item
pub record AreItems (items : ItemEntries) : Type 0 where
  pub rising : IsRising text_cmp items
  pub each : All IsItem (values_of items)

-- accounts: domains strictly rising, and each with items
pub record AreAccounts (accounts : DomainEntries) : Type 0 where
  pub rising : IsRising domain_cmp accounts
  pub each : All AreItems (values_of accounts)
