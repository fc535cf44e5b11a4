use Rattle.std.proofs.Common.{◌≡◌, take}
use Rattle.sdb_pairs.specs.Pairs.{merged}
use Rattle.sdb_pairs.proofs.edits.merge.Given as goal

abbrev pub invariant-loop-op : goal.invariant-loop-op
invariant-loop-op l = l.new ≡ merged l.item (take l.op-index l.op-items)
