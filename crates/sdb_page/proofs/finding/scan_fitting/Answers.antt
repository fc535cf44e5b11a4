use Rattle.std.proofs.Common.{◌≡◌, ◌∙◌, ◌++◌, [], ◌∷◌, true, false, sym, ap, filter, map}
use Rattle.std.specs.Map.Iter.{deref_pair}
use Rattle.std.proofs.lemmas.List.{map-append}
use Rattle.std.proofs.lemmas.Map.Iter.{rest_so_far}
use Rattle.sdb_domain.specs.Rows.{seen_row}
use Rattle.sdb_page.specs.Seen.{has_fit}
use Rattle.sdb_page.proofs.FindLemmas.{filter_leaves, filter_takes, nothing_more}
use Rattle.sdb_page.proofs.finding.scan_fitting.Goals as goal

pub loop-name-preserved-in-Continue-1 : goal.loop-name-preserved-in-Continue-1
loop-name-preserved-in-Continue-1 g c =
    let fit = has_fit c.args.attr.now c.args.test.now in
    let yields = (c.in-Some.name, c.in-Some.item) ∷ [] in
    let holds : fit (c.in-Some.name.now, c.in-Some.item.now) ≡ true = sym c.has_value_that_fits.ensures ∙ c.if-has_value_that_fits.true in
    ap (map seen_row) c.in_ok-push.ensures.items
    ∙ map-append seen_row c.loop-name.rows.items _
    ∙ filter_takes fit (map deref_pair c.loop-name.yielded) (map seen_row c.loop-name.rows.items) (c.in-Some.name.now, c.in-Some.item.now) c.loop-name.invariant holds
    ∙ ap (filter fit) (sym (map-append deref_pair c.loop-name.yielded yields))

pub loop-name-preserved : goal.loop-name-preserved
loop-name-preserved g c =
    let fit = has_fit c.args.attr.now c.args.test.now in
    let yields = (c.in-Some.name, c.in-Some.item) ∷ [] in
    let fails : fit (c.in-Some.name.now, c.in-Some.item.now) ≡ false = sym c.has_value_that_fits.ensures ∙ c.if-has_value_that_fits.false in
    filter_leaves fit (map deref_pair c.loop-name.yielded) (map seen_row c.loop-name.rows.items) (c.in-Some.name.now, c.in-Some.item.now) c.loop-name.invariant fails
    ∙ ap (filter fit) (sym (map-append deref_pair c.loop-name.yielded yields))

pub returns-clause-fitting : goal.returns-clause-fitting
returns-clause-fitting g c =
    let so_far = map deref_pair c.loop-name.yielded in
    let all : c.args.domain.now ≡ so_far =
    sym (c.into_iter-name-iterator.ensures.into_iter_gives ∙ c.items-name-items.ensures.items)
    ∙ rest_so_far deref_pair c.loop-name.yielded c.into_iter-name-iterator.result c.loop-name.name-iterator c.loop-name.yielded_by
    ∙ ap (λ l. so_far ++ l) c.in-None.ensures.steps.0
    ∙ nothing_more so_far in
    c.loop-name.invariant ∙ ap (filter (has_fit c.args.attr.now c.args.test.now)) (sym all)
