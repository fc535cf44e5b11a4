use Rattle.std.proofs.Common.{◌≡◌, ◌+◌, ◌-◌, ◌≤◌}
use Rattle.sdb_http.specs.Inside.{HasNoEnd}
use Rattle.sdb_http.proofs.head.find_end.Given as goal

abbrev pub invariant-lines : goal.invariant-lines
invariant-lines l = (l.at ≤ l.limit) × HasNoEnd l.held 0 l.at

abbrev pub decreases-lines : goal.decreases-lines
decreases-lines l = l.limit - l.at
