use Rattle.std.proofs.Common.{◌≡◌, take}
use Rattle.sdb_pairs.specs.Parts.{touched}
use Rattle.sdb_pairs.proofs.part.touched.Given as goal

abbrev pub invariant-loop-op : goal.invariant-loop-op
invariant-loop-op l = l.part ≡ touched l.item (take l.op-index l.op-items)
