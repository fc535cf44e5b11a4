use Rattle.std.proofs.Common.{◌≡◌, ◌+◌}
use Rattle.sdb_domain.proofs.domain.Domain.items.Given as goal

abbrev pub invariant-loop-place : goal.invariant-loop-place
invariant-loop-place g l = l.items ≡ l.fn.items + l._place
