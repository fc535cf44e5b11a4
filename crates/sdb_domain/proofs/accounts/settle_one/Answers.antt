use Rattle.std.proofs.Common.{◌≡◌, ◌<◌, length, get_or, ◌∙◌, sym, ap, subst, arith}
use Rattle.sdb_domain.specs.Slots.{AccountKept, account_at, domains_shown}
use Rattle.sdb_domain.specs.Steps.{Settles}
use Rattle.sdb_domain.proofs.LogLemmas.{at_get, settle_shown, settle_rest}
use Rattle.sdb_domain.proofs.accounts.settle_one.Goals as goal

pub returns-clause-shown : goal.returns-clause-shown
returns-clause-shown c =
    let accounts = c.args.accounts.now in
    let place = c.index_of-place.result in
    let lt : place < length accounts = omega arith in
    let here : account_at accounts place ≡ get_or accounts place c.index-accounts-place.result = at_get accounts place c.index-accounts-place.result lt in
    settle_shown accounts place c.settle.new.self lt (c.settle.ensures.shown ∙ ap (λ (a : AccountKept). domains_shown a.slots) (sym here))

pub returns-clause-settled : goal.returns-clause-settled
returns-clause-settled c = λ more.
    let accounts = c.args.accounts.now in
    let place = c.index_of-place.result in
    let lt : place < length accounts = omega arith in
    let here : account_at accounts place ≡ get_or accounts place c.index-accounts-place.result = at_get accounts place c.index-accounts-place.result lt in
    settle_rest accounts place c.settle.new.self c.args.undo.now more lt (omega arith)
    (subst (λ (a : AccountKept). Settles a.slots c.settle.new.self.slots c.args.undo.now.name) (sym here) c.settle.ensures)
