use Rattle.std.proofs.Common.{◌≡◌, ◌∙◌, sym, ap, filter, length, map}
use Rattle.std.proofs.lemmas.List.{length-map}
use Rattle.sdb_domain.specs.Rows.{seen_row}
use Rattle.sdb_page.specs.Selects.{bound_of, passes}
use Rattle.sdb_page.proofs.ToldLemmas.{bound_by_value, passes_by_value}
use Rattle.sdb_page.proofs.finding.find.Goals as goal

pub returns-in_ok-passing-in-Some-clause-passing : goal.returns-in_ok-passing-in-Some-clause-passing
returns-in_ok-passing-in-Some-clause-passing g c =
    c.in_ok-passing-in-Some.ensures.fitting
    ∙ ap (λ fit. filter fit c.args.domain.now) (sym (passes_by_value c.in-Some.attr.now c.in-Some.test.now c.in-Some.ensures.value))
    ∙ ap (λ cond. filter (passes cond) c.args.domain.now) (sym c.in-Some.ensures.cond)

pub returns-in_ok-passing-in-Some-clause-bound : goal.returns-in_ok-passing-in-Some-clause-bound
returns-in_ok-passing-in-Some-clause-bound g c =
    c.len-bound.ensures
    ∙ c.in_ok-passing-in-Some.passing.ok.0
    ∙ sym (length-map c.in_ok-passing-in-Some.passing.items seen_row)
    ∙ ap length c.in_ok-passing-in-Some.ensures.fitting
    ∙ bound_by_value c.in-Some.attr.now c.in-Some.test.now c.args.domain.now c.in-Some.ensures.value
    ∙ ap (λ cond. bound_of cond c.args.domain.now) (sym c.in-Some.ensures.cond)
