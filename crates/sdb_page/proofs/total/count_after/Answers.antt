use Rattle.std.proofs.Common.{ap, ◌∙◌, true, false, arith, sym, option_map}
use Rattle.sdb_domain.specs.Rows.{seen_row}
use Rattle.sdb_page.specs.Seen.{seen_place, spot_after}
use Rattle.sdb_page.specs.Spots.{spot_of}
use Rattle.sdb_page.proofs.TotalLemmas.{total_all, total_more}
use Rattle.sdb_page.proofs.total.count_after.Goals as goal
use Rattle.sdb_page.proofs.total.count_after.Goals.{then-has_place_after, else-has_place_after}

pub loop-row-preserved : goal.loop-row-preserved
loop-row-preserved c =
    let start = option_map seen_place c.args.start in
    let one = total_more c.args.sort.now start c.args.rows.now c.loop-row.row-index c.row-item.result c.loop-row.count c.if-has_place_after.count in
    let stands = c.has_place_after.ensures ∙ ap (λ row. spot_after start (spot_of c.args.sort.now (seen_row row))) c.row-item.is in
    elim c.if-has_place_after.branch [
      | then-has_place_after w ↦ (one true c.requires c.loop-row-test.true (sym w.if-has_place_after.true ∙ stands) c.loop-row.invariant.0 w.count-is, omega (arith, w.count-is, c.loop-row.invariant.1))
      | else-has_place_after w ↦ (one false c.requires c.loop-row-test.true (sym w.if-has_place_after.false ∙ stands) c.loop-row.invariant.0 (w.count-is ∙ omega arith), omega (arith, w.count-is, c.loop-row.invariant.1))
    ]

pub returns : goal.returns
returns c = total_all c.args.sort.now (option_map seen_place c.args.start) c.args.rows.now c.loop-row.row-index c.loop-row.count c.loop-row-test.false c.loop-row.invariant.0
