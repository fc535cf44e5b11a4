-- The sums of a domain while a write goes over its items, which tell what the domain would hold without the new items being made.
use Rattle.std.specs.Prelude.{ℕ, ◌+◌, ◌-◌, List, [], ◌∷◌, length, Option, Some, None}
use Rattle.sdb_pairs.specs.Accounts.{ItemEntries, DomainEntries, pairs_at}
use Rattle.sdb_pairs.specs.declared.pair.Pair.{Pair}
use Rattle.sdb_domain.specs.Weights.{item_weight, pair_count, domain_weight, account_weight}
use Rattle.sdb_tables.specs.declared.refusal.Refusal.{Refusal}
use Rattle.sdb_write.specs.ItemWrites.{ItemWrite, name_of, left_of}
use Rattle.sdb_write.specs.Limits.{first_of, item_above, sums_above, domains_above}
use Rattle.sdb_write.specs.declared.limits.Totals.{Totals}

-- the sums of these items
abbrev pub totals_of : ItemEntries → Totals
totals_of items = record { pairs = pair_count items; weight = domain_weight items }

-- what an item of these pairs adds to a sum: nothing without pairs, as there is no item
abbrev pub item_adds : (List ℕ × List Pair → ℕ) → List ℕ → List Pair → ℕ
item_adds f name [] = 0
item_adds f name (p ∷ ps) = f (name, p ∷ ps)

-- a sum once `new` stands in the place of `old`
abbrev pub moved : (sum old new : ℕ) → ℕ
moved sum old new = sum + new - old

-- the sums once the item has the new pairs in the place of the old
abbrev pub exchanged : Totals → (name : List ℕ) → (old new : List Pair) → Totals
exchanged totals name old new = record {
  pairs = moved totals.pairs (length old) (length new);
  weight = moved totals.weight (item_adds item_weight name old) (item_adds item_weight name new);
}

-- the first of the writes that leaves its item with too many pairs
abbrev pub writes_above : ItemEntries → List ItemWrite → Option Refusal
writes_above old [] = None
writes_above old (w ∷ ws) = first_of (item_above (length (left_of w (pairs_at old (name_of w))))) (writes_above old ws)

-- what a domain would hold, and its account with it, whose other domains stay
abbrev pub totals_above : DomainEntries → ℕ → ItemEntries → Totals → Option Refusal
totals_above accounts account old totals = sums_above totals.pairs totals.weight (moved (account_weight accounts account) (domain_weight old) totals.weight)

-- a domain that is made, of the items that it has where it is there, in an account of that weight and that many domains
abbrev pub made_above : Option ItemEntries → (account_weight domains : ℕ) → Option Refusal
made_above (Some items) all domains = sums_above (pair_count items) (domain_weight items) all
made_above None all domains = first_of (sums_above 0 0 all) (domains_above (domains + 1))
