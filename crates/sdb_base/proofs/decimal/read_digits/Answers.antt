use Rattle.std.proofs.Common.{sym, ◌∙◌, arith}
use Rattle.sdb_base.proofs.DecimalLemmas.{value_after-too_great}
use Rattle.sdb_base.proofs.decimal.read_digits.Goals as goal

pub returns-in_err-checked_mul : goal.returns-in_err-checked_mul
returns-in_err-checked_mul c =
    c.from_residual.ensures ∙ sym (value_after-too_great c.loop-c.value c.loop-c.c-index c.args.most c.args.digits.now c.loop-c-test.true c.loop-c.invariant (omega (arith, c.in_err-checked_mul.ensures)))

pub returns-in_err-value : goal.returns-in_err-value
returns-in_err-value c =
    c.from_residual-in_err-value.ensures ∙ sym (value_after-too_great c.loop-c.value c.loop-c.c-index c.args.most c.args.digits.now c.loop-c-test.true c.loop-c.invariant (omega (arith, c.in_err-value.ensures)))
