use Rattle.std.proofs.Common.{◌-◌}
use Rattle.sdb_arrivals.proofs.TableLemmas.{IsBetween}
use Rattle.sdb_arrivals.proofs.table.up_at.Given as goal

abbrev pub invariant-halves : goal.invariant-halves
invariant-halves l = IsBetween l.conn l.entries l.low l.high

abbrev pub decreases-halves : goal.decreases-halves
decreases-halves l = l.high - l.low
