use Rattle.std.proofs.Common.{◌≡◌, ◌-◌, ◌<◌, length, get_or, set, ◌∙◌, sym, ap, subst, arith}
use Rattle.sdb_domain.specs.Slots.{AccountKept, account_at}
use Rattle.sdb_domain.specs.Steps.{CanUndoAccount, account_undone}
use Rattle.sdb_domain.proofs.LogLemmas.{at_get}
use Rattle.sdb_domain.proofs.accounts.undo_one.Goals as goal

pub undo-requires : goal.undo-requires
undo-requires c =
    let accounts = c.args.accounts.now in
    let place = c.index_of-place.result in
    let lt : place < length accounts = omega arith in
    let same : c.args.undo.account - 1 ≡ place = omega arith in
    let here : account_at accounts place ≡ get_or accounts place c.index-accounts-place.result = at_get accounts place c.index-accounts-place.result lt in
    subst (λ (a : AccountKept). CanUndoAccount a c.args.undo) (ap (account_at accounts) same ∙ here) c.requires.can

pub returns-clause-undone : goal.returns-clause-undone
returns-clause-undone c =
    let accounts = c.args.accounts.now in
    let place = c.index_of-place.result in
    let lt : place < length accounts = omega arith in
    let same : place ≡ c.args.undo.account - 1 = omega arith in
    let here : get_or accounts place c.index-accounts-place.result ≡ account_at accounts place = sym (at_get accounts place c.index-accounts-place.result lt) in
    ap (set accounts place) (c.undo.ensures ∙ ap (λ a. account_undone a c.args.undo) here) ∙ ap (λ p. set accounts p (account_undone (account_at accounts p) c.args.undo)) same
