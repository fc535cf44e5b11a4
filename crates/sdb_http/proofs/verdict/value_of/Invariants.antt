use Rattle.std.proofs.Common.{◌≡◌, ◌+◌, ◌*◌, ◌^◌, ◌≤◌, drop}
use Rattle.sdb_base.specs.Decimal.{value_after}
use Rattle.sdb_http.proofs.verdict.value_of.Given as goal

abbrev pub invariant-loop-digit : goal.invariant-loop-digit
invariant-loop-digit l = (value_after l.number (drop l.digit-index l.digits) ≡ value_after 0 l.digits) × (l.number + 23 ≤ 23 * 10 ^ l.digit-index)
