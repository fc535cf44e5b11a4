use Rattle.std.proofs.Common.{◌≡◌, ◌++◌, map, take}
use Rattle.sdb_pairs.specs.declared.op.Op.TheVariants.{AddPair}
use Rattle.sdb_write.specs.ItemWrites.{put_of}
use Rattle.sdb_write.proofs.ops.add_pairs.Given as goal

abbrev pub invariant-loop-pair : goal.invariant-loop-pair
invariant-loop-pair l = l.ops ≡ l.fn.ops ++ map (λ p. AddPair p.pair) (map put_of (take l.pair-index l.pairs))
