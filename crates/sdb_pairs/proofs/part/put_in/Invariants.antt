use Rattle.std.proofs.Common.{◌≡◌, ◌+◌, ◌≤◌, ◌||◌, length, vec_capacity, vec_len}
use Rattle.std.specs.List.Sorted.{IsStrictlySortedBy}
use Rattle.sdb_pairs.specs.declared.pair.Pair.{Pair}
use Rattle.sdb_pairs.specs.Pairs.{pair_cmp}
use Rattle.sdb_pairs.proofs.EditLemmas.{among}
use Rattle.sdb_pairs.proofs.part.put_in.Given as goal

abbrev pub invariant-loop-pair : goal.invariant-loop-pair
invariant-loop-pair l = record {
  rises : IsStrictlySortedBy pair_cmp l.pairs.items;
  room : length l.pairs.items + length l.added.items ≤ vec_capacity l.pairs;
  same : (q : Pair) → (among q l.pairs.items || among q l.added.items) ≡ (among q l.initial.pairs.items || among q l.initial.added.items);
}

abbrev pub decreases-loop-pair : goal.decreases-loop-pair
decreases-loop-pair l = vec_len l.added
