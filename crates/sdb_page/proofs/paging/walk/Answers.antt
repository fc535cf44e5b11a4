use Rattle.std.proofs.Common.{◌≡◌, ◌∙◌, ap, map, filter, subst}
use Rattle.std.specs.Result.{IfOk}
use Rattle.sdb_domain.specs.Rows.{seen_row}
use Rattle.sdb_page.specs.Seen.{seen_entry}
use Rattle.sdb_page.specs.Selects.{passes, shown_as}
use Rattle.sdb_page.proofs.SelectLemmas.{walked}
use Rattle.sdb_page.proofs.paging.walk.Goals as goal

pub returns-clause-items : goal.returns-clause-items
returns-clause-items g c =
    let are : map seen_row c.as_slice-rows.result.now ≡ filter (passes c.args.select.now.cond) c.args.domain.now = ap (map seen_row) c.as_slice-rows.ensures.value ∙ c.in_ok-found.ensures.passing in
    let kept = ap (map seen_entry) c.as_slice.ensures.value ∙ c.in_ok-placed.ensures ∙ c.in_ok-kept.ensures in
    subst (λ rows. IfOk c.show_all.result (λ items. items ≡ map (shown_as c.args.select.now.output) rows)) (walked c.args.select.now c.args.domain.now c.as_slice-rows.result.now (map seen_entry c.as_slice.result.now) are kept) c.show_all.ensures
