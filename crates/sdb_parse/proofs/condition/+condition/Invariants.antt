use Rattle.std.proofs.Common.{ℕ, ◌+◌, ◌*◌, length}
use Rattle.sdb_parse.specs.declared.joint.Joint.{Joint}
use Rattle.sdb_parse.specs.declared.joint.Joint.TheVariants as joint
use Rattle.sdb_parse.proofs.ConditionLemmas.{Members}
use Rattle.sdb_parse.proofs.condition.+condition.Given as goal

abbrev rank : Joint → ℕ
rank joint.Inter = 1
rank joint.And = 3
rank joint.Or = 5

abbrev pub decreases-read_joined : goal.decreases-read_joined
decreases-read_joined l = 8 * l.allowed + 2 + rank l.joint

abbrev pub decreases-read_member : goal.decreases-read_member
decreases-read_member l = 8 * l.allowed + 1 + rank l.joint

abbrev pub decreases-read_unary : goal.decreases-read_unary
decreases-read_unary l = 8 * l.allowed + 1

abbrev pub decreases-read_negated : goal.decreases-read_negated
decreases-read_negated l = 8 * l.allowed

abbrev pub decreases-read_grouped : goal.decreases-read_grouped
decreases-read_grouped l = 8 * l.allowed

abbrev pub invariant-read_joined-more : goal.invariant-read_joined-more
invariant-read_joined-more l = Members l.joint l.allowed l.fn.cursor l.cursor l.members

abbrev pub decreases-read_joined-more : goal.decreases-read_joined-more
decreases-read_joined-more l = length l.cursor
