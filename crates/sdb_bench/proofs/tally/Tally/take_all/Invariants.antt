use Rattle.std.proofs.Common.{length}
use Rattle.sdb_bench.proofs.TallyLemmas.{Taking}
use Rattle.sdb_bench.proofs.tally.Tally.take_all.Given as goal

abbrev pub invariant-loop-out : goal.invariant-loop-out
invariant-loop-out l = Taking l.fn.core l.core l.fn.self l.self

abbrev pub decreases-loop-out : goal.decreases-loop-out
decreases-loop-out l = length l.core.line.out
