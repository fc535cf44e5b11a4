use Rattle.std.proofs.Common.{◌-◌, ◌^◌}
use Rattle.sdb_bench.proofs.PlayLemmas.{Playing}
use Rattle.sdb_bench.proofs.playing.play.Given as goal

-- how far the workload has come
abbrev pub invariant-events : goal.invariant-events
invariant-events g l =
    Playing l.fn.size l.fn.core l.core (g.D.Disk.state l.fn.disk) (g.D.Disk.state l.disk) l.input l.reader l.tally

abbrev pub decreases-events : goal.decreases-events
decreases-events g l = 2 ^ 40 - l.reader.at
