use Rattle.std.proofs.Common.{Some, sym, ap, ◌∙◌}
use Rattle.sdb_parse.specs.Meaning.{same_attr}
use Rattle.sdb_pred.proofs.LoopLemmas.{common_differs, common_end}
use Rattle.sdb_pred.proofs.attr.+sole.Goals as goal

pub common-returns-then-not-is_sole_on : goal.common-returns-then-not-is_sole_on
common-returns-then-not-is_sole_on t c =
    common_differs c.args.members.now c.in_ok-first.first.now c.in_ok-first.others.now c.in_ok-attr.attr.now c.loop-other.other-index c.other-item.result c.in_ok-first.ensures.cases.0 c.in_ok-attr.ensures c.loop-other-test.true
    c.other-item.is (sym c.if-not-is_sole_on.true ∙ (c.is_sole_on.ensures ∙ ap (same_attr (Some c.in_ok-attr.attr.now)) c.sole-in-loop-other.ensures))

pub common-returns : goal.common-returns
common-returns t c =
    common_end c.args.members.now c.in_ok-first.first.now c.in_ok-first.others.now c.in_ok-attr.attr.now c.loop-other.other-index c.in_ok-first.ensures.cases.0 c.in_ok-attr.ensures c.loop-other-test.false c.loop-other.invariant
