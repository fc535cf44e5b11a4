use Rattle.std.proofs.Common.{◌≡◌, Some, option_map, sym, ◌∙◌, ap}
use Rattle.std.proofs.lemmas.Result.{err_from_is_err_and}
use Rattle.sdb_pairs.specs.Accounts.{items_of}
use Rattle.sdb_write.proofs.DecisionLemmas.{batch_items_refused, batch_totals_refused, batch_decided}
use Rattle.sdb_write.proofs.puts.put_batch.Goals as goal

pub returns-in_err-changes-clause-answer : goal.returns-in_err-changes-clause-answer
returns-in_err-changes-clause-answer g c =
    let p = err_from_is_err_and c.from_residual-in_err-changes.result c.from_residual-in_err-changes.ensures.1 in
    let domain = c.in_ok-domain.domain.now in
    let there : items_of c.args.accounts.now c.args.account c.args.name.now ≡ Some domain = sym c.domain.ensures.found ∙ ap (option_map (λ d. d.now)) c.in_ok-domain.ensures.ok_part in
    rw (p.1, p.2) (batch_items_refused c.args.accounts.now c.args.account c.args.name.now domain c.args.items.now c.domain.ensures.accounts there c.requires _ c.in_err-changes.ensures.answer)

pub returns-in_err-check-clause-answer : goal.returns-in_err-check-clause-answer
returns-in_err-check-clause-answer g c =
    let p = err_from_is_err_and c.from_residual-in_err-check.result c.from_residual-in_err-check.ensures.1 in
    let domain = c.in_ok-domain.domain.now in
    let there : items_of c.args.accounts.now c.args.account c.args.name.now ≡ Some domain = sym c.domain.ensures.found ∙ ap (option_map (λ d. d.now)) c.in_ok-domain.ensures.ok_part in
    rw (p.1, p.2) (batch_totals_refused c.args.accounts.now c.args.account c.args.name.now domain c.args.items.now c.domain.ensures.accounts there c.requires _ _ _ c.in_ok-changes.ensures.answer c.in_err-check.ensures)

pub returns-clause-answer : goal.returns-clause-answer
returns-clause-answer g c =
    let domain = c.in_ok-domain.domain.now in
    let there : items_of c.args.accounts.now c.args.account c.args.name.now ≡ Some domain = sym c.domain.ensures.found ∙ ap (option_map (λ d. d.now)) c.in_ok-domain.ensures.ok_part in
    batch_decided c.args.accounts.now c.args.account c.args.name.now domain c.args.items.now c.domain.ensures.accounts there c.requires _ _ c.in_ok-changes.ensures.answer c.in_ok-check.ensures
