use Rattle.std.proofs.Common.{length}
use Rattle.sdb_replay.proofs.ShownLemmas.{Gathering}
use Rattle.sdb_replay.proofs.shown.gather.Given as goal

abbrev pub invariant-loop-out : goal.invariant-loop-out
invariant-loop-out l = Gathering l.fn.core l.core l.fn.text.bytes l.text.bytes

abbrev pub decreases-loop-out : goal.decreases-loop-out
decreases-loop-out l = length l.core.line.out
