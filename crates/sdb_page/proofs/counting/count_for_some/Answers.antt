use Rattle.std.proofs.Common.{ap, ◌∙◌, map, true, false, arith, sym}
use Rattle.std.specs.List.{list_any}
use Rattle.sdb_parse.specs.Meaning.{has_value, meaning}
use Rattle.sdb_pred.specs.Items.{values_in}
use Rattle.sdb_page.proofs.BoundLemmas.{count_more}
use Rattle.sdb_page.proofs.counting.count_for_some.Goals as goal
use Rattle.sdb_page.proofs.counting.count_for_some.Goals.{then-has_value_for_some, else-has_value_for_some}

pub loop-row-preserved : goal.loop-row-preserved
loop-row-preserved c =
    let asked = has_value c.args.attr.now (λ value. list_any (λ m. m.asks value) (map meaning c.args.members.now)) in
    let one = count_more c.args.rows.now asked c.loop-row.row-index c.row-item.result c.loop-row.count c.if-has_value_for_some.count in
    elim c.if-has_value_for_some.branch [
      | then-has_value_for_some w ↦
          (one true c.loop-row-test.true (sym w.if-has_value_for_some.true ∙ c.has_value_for_some.ensures ∙ ap (λ row. asked row.name.now (values_in row.item.now)) c.row-item.is) c.loop-row.invariant.0 w.count-is, omega (arith, w.count-is, c.loop-row.invariant.1))
      | else-has_value_for_some w ↦
          (one false c.loop-row-test.true (sym w.if-has_value_for_some.false ∙ c.has_value_for_some.ensures ∙ ap (λ row. asked row.name.now (values_in row.item.now)) c.row-item.is) c.loop-row.invariant.0 (w.count-is ∙ omega arith), omega (arith, w.count-is, c.loop-row.invariant.1))
    ]
