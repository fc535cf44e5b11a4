use Rattle.std.proofs.Common.{⊎_elim, sym, subst, arith}
use Rattle.sdb_action.specs.Lawful.{IsLawfulRequest}
use Rattle.sdb_pairs.specs.Lawful.{IsAccount}
use Rattle.sdb_respond.specs.Staged.{CanBeStaged}
use Rattle.sdb_respond.proofs.StagedLemmas.{changes_staged, nothing_staged}
use Rattle.sdb_respond.proofs.replies.execute.Goals as goal

pub returns-clause-staged : goal.returns-clause-staged
returns-clause-staged g c =
    let accounts = c.args.accounts.now in
    let account : IsAccount c.args.account = record { least = grind (arith, c.well_formed); most = grind (arith, c.well_formed) } in
    let lawful = subst IsLawfulRequest (sym c.request-request.ensures.same) c.request-request.ensures.lawful in
    ⊎_elim
    (λ none. subst (CanBeStaged accounts) (sym none) (nothing_staged accounts))
    (λ are. subst (CanBeStaged accounts) (sym c.in_ok-answer.ensures.changes) (changes_staged accounts c.args.account c.request-request.result.now account are lawful))
    c.in_ok-stand_in_order.ensures
