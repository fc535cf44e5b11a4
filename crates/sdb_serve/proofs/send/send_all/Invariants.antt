use Rattle.std.proofs.Common.{length}
use Rattle.sdb_serve.proofs.SendLemmas.{SentSoFar}
use Rattle.sdb_serve.proofs.send.send_all.Given as goal

abbrev pub invariant-loop-out : goal.invariant-loop-out
invariant-loop-out g l = SentSoFar l.fn.core l.core l.fn.lost l.lost (g.L.Links.state l.fn.links) (g.L.Links.state l.links)

abbrev pub decreases-loop-out : goal.decreases-loop-out
decreases-loop-out g l = length l.core.line.out
