-- What items, domains and accounts weigh, and the numbers that describe a domain.
use Rattle.std.specs.Prelude.{ℕ, ◌+◌, ◌==◌, List, [], ◌∷◌, ◌++◌, length, filter, map, fold}
use Rattle.std.specs.List.{sum_by}
use Rattle.std.specs.BTreeSet.{insert_key}
use Rattle.sdb_base.specs.Texts.{text_cmp}
use Rattle.sdb_pairs.specs.declared.pair.Pair.{Pair}
use Rattle.sdb_pairs.specs.Accounts.{ItemEntries, DomainEntries}

-- a pair weighs the bytes of its name and of its value, and 64
abbrev pub pair_weight : Pair → ℕ
pair_weight p = length p.name + length p.value + 64

-- an item weighs the bytes of its name, and 64, and its pairs
abbrev pub item_weight : List ℕ × List Pair → ℕ
item_weight item = length item.0 + 64 + sum_by pair_weight item.1

-- a domain weighs what its items weigh
abbrev pub domain_weight : ItemEntries → ℕ
domain_weight items = sum_by item_weight items

-- the domains of one account
abbrev pub domains_of : DomainEntries → ℕ → DomainEntries
domains_of accounts account = filter (λ domain. domain.0.0 == account) accounts

-- an account weighs what its domains weigh
abbrev pub account_weight : DomainEntries → ℕ → ℕ
account_weight accounts account = sum_by (λ domain. domain_weight domain.1) (domains_of accounts account)

-- the number of pairs of a domain
abbrev pub pair_count : ItemEntries → ℕ
pair_count items = sum_by (λ item. length item.1) items

-- the bytes of the values of an item
abbrev pub value_bytes_of : List Pair → ℕ
value_bytes_of pairs = sum_by (λ p. length p.value) pairs

-- every pair of a domain
abbrev pub all_pairs : ItemEntries → List Pair
all_pairs [] = []
all_pairs (item ∷ items) = item.1 ++ all_pairs items

-- the attribute names of a domain, each once, rising
abbrev pub names_of : ItemEntries → List (List ℕ)
names_of items = fold (insert_key text_cmp) [] (map (λ p. p.name) (all_pairs items))
