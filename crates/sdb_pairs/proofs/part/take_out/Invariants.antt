use Rattle.std.proofs.Common.{◌≡◌, ◌-◌, length, drop, vec_capacity}
use Rattle.std.specs.List.Sorted.{IsStrictlySortedBy}
use Rattle.sdb_pairs.specs.Pairs.{pair_cmp}
use Rattle.sdb_pairs.specs.Parts.{without}
use Rattle.sdb_pairs.proofs.part.take_out.Given as goal

abbrev pub invariant-loop-taken : goal.invariant-loop-taken
invariant-loop-taken l = record {
  rises : IsStrictlySortedBy pair_cmp l.pairs.items;
  items : l.pairs.items ≡ without l.initial.pairs.items (drop (length l.out - l.taken) l.out);
  capacity : vec_capacity l.pairs ≡ vec_capacity l.initial.pairs;
}
