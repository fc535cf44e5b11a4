use Rattle.sdb_sign.proofs.Differences.{AreSameTo}
use Rattle.sdb_sign.proofs.same.is_same.Given as goal

abbrev pub invariant-loop-place : goal.invariant-loop-place
invariant-loop-place l = AreSameTo l.place l.a l.b l.differences
