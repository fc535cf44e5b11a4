-- The limits of what an item, a domain and an account hold (SimpleDB Developer Guide, "Limits"), over the accounts as they would be.
use Rattle.std.specs.Prelude.{ℕ, List, [], ◌∷◌, length, Option, Some, None, nat_lt, if◌then◌else◌}
use Rattle.sdb_pairs.specs.Accounts.{ItemEntries, DomainEntries, has_domain, pairs_at}
use Rattle.sdb_pairs.specs.Changes.{items_or_none}
use Rattle.sdb_domain.specs.Weights.{pair_count, domain_weight, domains_of, account_weight}
use Rattle.sdb_tables.specs.declared.refusal.Refusal.{Refusal}
use Rattle.sdb_tables.specs.declared.refusal.Refusal.TheVariants.{NumberItemAttributesExceeded, NumberDomainAttributesExceeded, NumberDomainBytesExceeded, NumberDomainsExceeded}

-- the refusal, with the count, where that is above the limit
abbrev pub above : ℕ → ℕ → (ℕ → Refusal) → Option Refusal
above limit count refusal = if nat_lt limit count then Some (refusal count) else None

-- the first refusal of two checks
abbrev pub first_of : Option Refusal → Option Refusal → Option Refusal
first_of None later = later
first_of (Some refusal) later = Some refusal

-- an item's number of pairs
abbrev pub item_above : ℕ → Option Refusal
item_above pairs = above 256 pairs NumberItemAttributesExceeded

-- the first of the named items that has too many pairs
abbrev pub items_above : ItemEntries → List (List ℕ) → Option Refusal
items_above items [] = None
items_above items (name ∷ names) = first_of (item_above (length (pairs_at items name))) (items_above items names)

-- a domain of that many pairs and that weight, in an account of that weight
abbrev pub sums_above : (pairs weight account_weight : ℕ) → Option Refusal
sums_above pairs weight all =
    first_of (above 250000 pairs NumberDomainAttributesExceeded) (first_of (above 33554432 weight NumberDomainBytesExceeded) (above 67108864 all NumberDomainBytesExceeded))

-- the account's number of domains
abbrev pub domains_above : ℕ → Option Refusal
domains_above domains = above 250 domains NumberDomainsExceeded

-- the first limit that the new accounts break, where a request makes them of the old ones by writing these items of the domain. The number of domains counts where it grows.
abbrev pub broken_limit : (old new : DomainEntries) (account : ℕ) (domain : List ℕ) (names : List (List ℕ)) → Option Refusal
broken_limit old new account domain names =
    first_of (items_above (items_or_none new account domain) names)
    (first_of (sums_above (pair_count (items_or_none new account domain)) (domain_weight (items_or_none new account domain)) (account_weight new account))
    (if has_domain old account domain then None else domains_above (length (domains_of new account))))
