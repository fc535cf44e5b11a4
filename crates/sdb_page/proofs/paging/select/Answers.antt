use Rattle.std.proofs.Common.{◌≡◌, ◌∙◌, sym, ap, filter, length, map, subst}
use Rattle.std.specs.Option.{option_copied}
use Rattle.std.specs.Result.{IfOk}
use Rattle.sdb_base.specs.Entries.{IsRising}
use Rattle.sdb_base.specs.Texts.{text_cmp}
use Rattle.sdb_domain.specs.Rows.{seen_row}
use Rattle.sdb_page.specs.Seen.{seen_entry}
use Rattle.sdb_page.specs.Selects.{count_on, items_on, passes}
use Rattle.sdb_page.proofs.SelectLemmas.{front-page, left-next, rising_passing, total-count, total-next}
use Rattle.sdb_page.proofs.paging.select.Goals as goal

pub total-requires : goal.total-requires
total-requires g c =
    let are : map seen_row c.as_slice-rows.result.now ≡ filter (passes c.args.select.now.cond) c.args.domain.now = ap (map seen_row) c.as_slice-rows.ensures.value ∙ c.in_ok-found.ensures.passing in
    subst (IsRising text_cmp) (sym are) (rising_passing (passes c.args.select.now.cond) c.args.domain.now c.in_ok-found.ensures.in_order.rising)

pub returns-in_default-clause-count : goal.returns-in_default-clause-count
returns-in_default-clause-count g c =
    let are = ap (map seen_row) c.as_slice-rows.ensures.value ∙ c.in_ok-found.ensures.passing in
    c.total.ensures.count
    ∙ total-count c.args.select.now c.args.domain.now c.as_slice-rows.result.now are (option_copied c.args.after) (c.limit_of.ensures.counted c.in_default.is) (c.limit_of.ensures.unlimited c.in_default.is)

pub returns-in_default-clause-next : goal.returns-in_default-clause-next
returns-in_default-clause-next g c =
    let are = ap (map seen_row) c.as_slice-rows.ensures.value ∙ c.in_ok-found.ensures.passing in
    c.total.ensures.next
    ∙ total-next c.args.select.now c.args.domain.now c.as_slice-rows.result.now are (option_copied c.args.after) (c.limit_of.ensures.counted c.in_default.is) (c.limit_of.ensures.unlimited c.in_default.is)

pub returns-clause-items : goal.returns-clause-items
returns-clause-items g c =
    let are = ap (map seen_row) c.as_slice-rows.ensures.value ∙ c.in_ok-found.ensures.passing in
    let kept = ap (map seen_entry) c.as_slice.ensures.value ∙ c.in_ok-placed.ensures in
    let same = front-page c.args.select.now c.args.domain.now c.as_slice-rows.result.now are (option_copied c.args.after) c.in-Some.limit (map seen_entry c.as_slice.result.now) (c.in-Some.ensures.limit (length c.args.domain.now)) kept in
    subst (λ front. IfOk c.cut.result (λ page. page.items ≡ items_on c.args.select.now.output front)) same c.cut.ensures.items

pub returns-clause-count : goal.returns-clause-count
returns-clause-count g c =
    let are = ap (map seen_row) c.as_slice-rows.ensures.value ∙ c.in_ok-found.ensures.passing in
    let kept = ap (map seen_entry) c.as_slice.ensures.value ∙ c.in_ok-placed.ensures in
    let same = front-page c.args.select.now c.args.domain.now c.as_slice-rows.result.now are (option_copied c.args.after) c.in-Some.limit (map seen_entry c.as_slice.result.now) (c.in-Some.ensures.limit (length c.args.domain.now)) kept in
    subst (λ front. IfOk c.cut.result (λ page. page.count ≡ count_on c.args.select.now.output front)) same c.cut.ensures.count

pub returns-clause-next : goal.returns-clause-next
returns-clause-next g c =
    let are = ap (map seen_row) c.as_slice-rows.ensures.value ∙ c.in_ok-found.ensures.passing in
    let kept = ap (map seen_entry) c.as_slice.ensures.value ∙ c.in_ok-placed.ensures in
    let same = left-next c.args.select.now c.args.domain.now c.as_slice-rows.result.now are (option_copied c.args.after) c.in-Some.limit (map seen_entry c.as_slice.result.now) (c.in-Some.ensures.limit (length c.args.domain.now)) kept in
    subst (λ next. IfOk c.cut.result (λ page. page.next ≡ next)) same c.cut.ensures.next
