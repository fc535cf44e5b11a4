-- The sums that a domain keeps beside its rows.
use Rattle.std.specs.Prelude.{ℕ, ◌+◌, ◌-◌, ◌^◌, ◌≤◌, ◌==◌, Bool, true, false, not, ◌||◌, List, [], ◌∷◌, length}
use Rattle.std.specs.List.{sum_by}
use Rattle.sdb_pairs.specs.declared.pair.Pair.{Pair}
use Rattle.sdb_domain.specs.declared.sums.Sums.{Sums}
use Rattle.sdb_domain.specs.Weights.{item_weight, pair_weight, value_bytes_of}

-- the sums over no items
abbrev pub no_sums : Sums
no_sums = record { items = 0; item_bytes = 0; pairs = 0; value_bytes = 0; weight = 0 }

-- what one row adds: nothing where it has no pairs
abbrev pub row_sums : List ℕ × List Pair → Sums
row_sums (name, []) = no_sums
row_sums (name, p ∷ ps) = record { items = 1; item_bytes = length name; pairs = length (p ∷ ps); value_bytes = value_bytes_of (p ∷ ps); weight = item_weight (name, p ∷ ps) }

-- whether there are pairs
abbrev pub has_pairs : List Pair → Bool
has_pairs [] = false
has_pairs (p ∷ ps) = true

-- what some pairs of a row add, and the row itself where it is counted with them
abbrev pub part_sums : List ℕ → Bool → List Pair → Sums
part_sums name true pairs = record { items = 1; item_bytes = length name; pairs = length pairs; value_bytes = value_bytes_of pairs; weight = item_weight (name, pairs) }
part_sums name false pairs = record { items = 0; item_bytes = 0; pairs = length pairs; value_bytes = value_bytes_of pairs; weight = sum_by pair_weight pairs }

-- the sums once `new` stands in the place of `old`
abbrev pub exchanged : Sums → Sums → Sums → Sums
exchanged sums old new = record {
  items = sums.items - old.items + new.items;
  item_bytes = sums.item_bytes - old.item_bytes + new.item_bytes;
  pairs = sums.pairs - old.pairs + new.pairs;
  value_bytes = sums.value_bytes - old.value_bytes + new.value_bytes;
  weight = sums.weight - old.weight + new.weight;
}

-- one of the sums reaches 2^64
pub data SomeReachesLimit (sums : Sums) : Type 0 where
  items : 2 ^ 64 ≤ sums.items → SomeReachesLimit sums
  item_bytes : 2 ^ 64 ≤ sums.item_bytes → SomeReachesLimit sums
  pairs : 2 ^ 64 ≤ sums.pairs → SomeReachesLimit sums
  value_bytes : 2 ^ 64 ≤ sums.value_bytes → SomeReachesLimit sums
  weight : 2 ^ 64 ≤ sums.weight → SomeReachesLimit sums

-- whether an item has pairs once some are taken out and others put in
abbrev pub has_left : List Pair → List Pair → List Pair → Bool
has_left item out put = not (length item == length out) || has_pairs put

-- the sums then: the row is counted where it has pairs
abbrev pub sums_after : Sums → List ℕ → List Pair → List Pair → List Pair → Sums
sums_after sums name item out put = exchanged sums (part_sums name (has_pairs item) out) (part_sums name (has_left item out put) put)
