use Rattle.std.proofs.Common.{◌≡◌, take, fold}
use Rattle.sdb_pairs.specs.Pairs.{with_pair}
use Rattle.sdb_pairs.proofs.part.add_all.Given as goal

abbrev pub invariant-loop-pair : goal.invariant-loop-pair
invariant-loop-pair l = l.part ≡ fold with_pair l.initial.part (take l.pair-index l.pairs)
