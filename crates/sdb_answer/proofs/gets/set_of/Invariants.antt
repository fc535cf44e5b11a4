use Rattle.std.proofs.Common.{take}
use Rattle.sdb_answer.specs.Gets.{Finds}
use Rattle.sdb_answer.proofs.gets.set_of.Given as goal

abbrev pub invariant-loop-name : goal.invariant-loop-name
invariant-loop-name l = Finds l.set.keys (take l.name-index l.name-items)
