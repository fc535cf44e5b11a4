use Rattle.std.proofs.Common.{◌≡◌, ◌≤◌, take}
use Rattle.std.specs.List.{sum_by}
use Rattle.sdb_domain.specs.Weights.{pair_weight, value_bytes_of}
use Rattle.sdb_domain.proofs.sums.sum_pairs.Given as goal

abbrev pub invariant-loop-pair : goal.invariant-loop-pair
invariant-loop-pair l = (l.value_bytes ≡ value_bytes_of (take l.pair-index l.pairs)) × (l.weight ≡ sum_by pair_weight (take l.pair-index l.pairs)) × (l.value_bytes ≤ l.weight)
