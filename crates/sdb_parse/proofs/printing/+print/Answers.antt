use Rattle.std.proofs.Common.{sym, ap, ◌∙◌}
use Rattle.std.proofs.lemmas.Result.{on_ok_weaker}
use Rattle.sdb_parse.specs.declared.expr.Expr.TheVariants.{Not}
use Rattle.sdb_parse.proofs.PrintedLemmas.{between_more, joined_all, joined_more, not_printed}
use Rattle.sdb_parse.proofs.printing.+print.Goals as goal

pub print_joined-loop-member-preserved : goal.print_joined-loop-member-preserved
print_joined-loop-member-preserved t c = record {
  gap = sym (between_more c.args.word.now c.loop-member.member-index);
  written = joined_more c.args.bound c.args.word.now c.args.line.now c.loop-member.before.now c.loop-member.line c.plain.new.self c.print_member.new.line c.args.members.now c.loop-member.member-index c.member-item.result
      c.loop-member-test.true c.member-item.is c.loop-member.invariant.gap c.loop-member.invariant.written c.in_ok-plain.ensures c.in_ok-print_member.ensures;
}

pub print_joined-returns : goal.print_joined-returns
print_joined-returns t c =
    joined_all c.args.bound c.args.word.now c.args.line.now c.loop-member.line c.args.members.now c.loop-member.member-index c.loop-member-test.false c.loop-member.invariant.written

pub print_expr-returns-in_ok-plain-in-Not : goal.print_expr-returns-in_ok-plain-in-Not
print_expr-returns-in_ok-plain-in-Not t c =
    on_ok_weaker c.print_member.result
    (λ written. not_printed c.args.expr.now c.get.result.now c.args.line.now c.plain.new.self c.print_member.new.line (c.in-Not.is ∙ ap Not (sym c.get.ensures)) c.in_ok-plain-in-Not.ensures written) c.print_member.ensures
