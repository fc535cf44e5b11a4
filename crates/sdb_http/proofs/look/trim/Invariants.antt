use Rattle.std.proofs.Common.{◌≡◌, length}
use Rattle.sdb_http.specs.Messages.{trim}
use Rattle.sdb_http.proofs.look.trim.Given as goal

abbrev pub invariant-loop-left : goal.invariant-loop-left
invariant-loop-left l = trim l.left ≡ trim l.bytes

abbrev pub decreases-loop-left : goal.decreases-loop-left
decreases-loop-left l = length l.left
