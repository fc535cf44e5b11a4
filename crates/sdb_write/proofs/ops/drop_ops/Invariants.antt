use Rattle.std.proofs.Common.{◌≡◌, map, take}
use Rattle.sdb_pairs.specs.Laws.{part_op}
use Rattle.sdb_write.specs.ItemWrites.{part_of}
use Rattle.sdb_write.proofs.ops.drop_ops.Given as goal

abbrev pub invariant-loop-part : goal.invariant-loop-part
invariant-loop-part l = l.ops ≡ map part_op (map part_of (take l.part-index l.parts))
