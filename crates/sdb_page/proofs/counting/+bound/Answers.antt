use Rattle.std.proofs.Common.{ℕ, min, ap, ◌∙◌, arith}
use Rattle.sdb_parse.specs.declared.expr.Expr.{Expr}
use Rattle.sdb_parse.specs.Meaning.{any_item, bound}
use Rattle.sdb_page.specs.Seen.{count_in}
use Rattle.sdb_page.proofs.BoundLemmas.{sum_more}
use Rattle.sdb_page.proofs.counting.+bound.Goals as goal

pub sum_at_most_all-loop-member-preserved : goal.sum_at_most_all-loop-member-preserved
sum_at_most_all-loop-member-preserved t c =
    let number : Expr → ℕ = λ e. bound e (count_in c.args.rows.now) in
    let all = c.count_all-all.result in
    let one = c.bound.ensures ∙ ap number c.member-item.is in
    sum_more c.args.members.now number c.loop-member.member-index c.member-item.result (count_in c.args.rows.now any_item) c.loop-member.sum c.bound.result c.saturating_add.result c.min-sum.result (omega (arith, c.count_all-all.type_inv, c.count_all-all.ensures)) c.loop-member-test.true c.loop-member.invariant one c.saturating_add.ensures (c.min-sum.ensures ∙ ap (λ n. min n c.saturating_add.result) c.count_all-all.ensures)
