use Rattle.std.proofs.Common.{ap, ◌∙◌, sym, filter, map}
use Rattle.sdb_domain.specs.Rows.{seen_row}
use Rattle.sdb_parse.specs.declared.expr.Expr.{Expr}
use Rattle.sdb_parse.specs.Meaning.{bound, holds}
use Rattle.sdb_pred.specs.Items.{values_in}
use Rattle.sdb_page.specs.Seen.{count_in}
use Rattle.sdb_page.proofs.BoundLemmas.{bound_Pred}
use Rattle.sdb_page.proofs.ToldLemmas.{told_by_passing}
use Rattle.sdb_page.proofs.counting.bound_where.Goals as goal

pub returns-then-is_told : goal.returns-then-is_told
returns-then-is_told c =
    let rows = c.args.rows.now in
    told_by_passing c.in-Pred.operand c.in-Pred.test rows c.args.passing.now (sym c.is_told.ensures ∙ c.if-is_told.true)
    (c.requires ∙ ap (λ (e : Expr). filter (λ item. holds e item.0 (values_in item.1)) (map seen_row rows)) c.in-Pred.is)
    ∙ sym (bound_Pred c.in-Pred.operand c.in-Pred.test (count_in rows))
    ∙ ap (λ (e : Expr). bound e (count_in rows)) (sym c.in-Pred.is)

pub returns-else-is_told : goal.returns-else-is_told
returns-else-is_told c =
    c.count_that_can_hold.ensures
    ∙ sym (bound_Pred c.in-Pred.operand c.in-Pred.test (count_in c.args.rows.now))
    ∙ ap (λ (e : Expr). bound e (count_in c.args.rows.now)) (sym c.in-Pred.is)
