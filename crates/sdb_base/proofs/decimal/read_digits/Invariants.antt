use Rattle.std.proofs.Common.{◌≡◌, drop}
use Rattle.sdb_base.specs.Decimal.{value_after}
use Rattle.sdb_base.proofs.decimal.read_digits.Given as goal

-- what is read so far and the rest have the value of the whole
abbrev pub invariant-loop-c : goal.invariant-loop-c
invariant-loop-c l = value_after l.value (drop l.c-index l.digits) ≡ value_after 0 l.digits
