use Rattle.std.proofs.Common.{[], ◌∷◌, ◌∙◌, ap}
use Rattle.std.proofs.lemmas.Result.{err_from_is_err_and}
use Rattle.sdb_pairs.specs.declared.change.Change.TheVariants.{MakeDomain}
use Rattle.sdb_write.proofs.DecisionLemmas.{made_refused, made_decided}
use Rattle.sdb_write.proofs.decision.create.Goals as goal

pub returns-in_err-check_made : goal.returns-in_err-check_made
returns-in_err-check_made c =
    let p = err_from_is_err_and c.from_residual.result c.from_residual.ensures.1 in
    rw (p.1, p.2) (made_refused c.args.accounts.now c.args.account c.args.name.now _ c.domain.ensures.accounts c.domain.ensures.found _ c.in_err-check_made.ensures)

pub returns : goal.returns
returns c = made_decided c.args.accounts.now c.args.account c.args.name.now _ c.domain.ensures.accounts c.domain.ensures.found _ c.in_ok-check_made.ensures (c.in_ok-one_change.ensures ∙ ap (λ name. MakeDomain c.args.account name ∷ []) c.in_ok-name.ensures)
