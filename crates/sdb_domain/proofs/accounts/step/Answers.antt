use Rattle.std.proofs.Common.{◌≡◌, ◌<◌, length, get_or, set, ◌∙◌, sym, subst, arith}
use Rattle.sdb_domain.specs.Slots.{AccountKept, account_at}
use Rattle.sdb_domain.specs.Steps.{AccountSteps, AccountMoves, account_undone}
use Rattle.sdb_domain.proofs.EntryViews.{none_from}
use Rattle.sdb_domain.proofs.LogLemmas.{at_get, at_set, set_length, set_kept, step_shown, step_logs, stay_shown, logs_kept}
use Rattle.sdb_domain.proofs.accounts.step.Goals as goal

pub returns-in_default-clause-ok : goal.returns-in_default-clause-ok
returns-in_default-clause-ok c =
    let accounts = c.args.accounts.now in
    let place = c.index_of-place.result in
    let lt : place < length accounts = omega arith in
    let here : account_at accounts place ≡ get_or accounts place c.index-accounts-place.result = at_get accounts place c.index-accounts-place.result lt in
    let moves : AccountMoves (account_at accounts place) c.step.new.self c.args.change.now c.in_ok-undo.field-0 = subst (λ (a : AccountKept). AccountMoves a c.step.new.self c.args.change.now c.in_ok-undo.field-0) (sym here) c.in_ok-undo.ensures.ok in
    let stays = subst (AccountMoves (account_at accounts place) c.step.new.self c.args.change.now) (none_from c.in_ok-undo.field-0 c.in_default.not-Some) moves in
    stay_shown accounts place c.step.new.self c.args.change.now lt (c.index_of-place.ensures.place ∙ c.account_id.ensures) stays.0 stays.1

pub returns-in-Err-clause-logs : goal.returns-in-Err-clause-logs
returns-in-Err-clause-logs c =
    let accounts = c.args.accounts.now in
    let place = c.index_of-place.result in
    let lt : place < length accounts = omega arith in
    let here : account_at accounts place ≡ get_or accounts place c.index-accounts-place.result = at_get accounts place c.index-accounts-place.result lt in
    let moves : AccountMoves (account_at accounts place) c.step.new.self c.args.change.now c.in_ok-undo.field-0 = subst (λ (a : AccountKept). AccountMoves a c.step.new.self c.args.change.now c.in_ok-undo.field-0) (sym here) c.in_ok-undo.ensures.ok in
    let steps : AccountSteps (account_at accounts place) c.step.new.self c.args.change.now c.in-Some.undo = subst (AccountMoves (account_at accounts place) c.step.new.self c.args.change.now) c.in-Some.is moves in
    let stepped = set accounts place c.step.new.self in
    let there : get_or stepped place c.index-accounts-place-in-Err.result ≡ c.step.new.self =
    sym (at_get stepped place c.index-accounts-place-in-Err.result (let same : length stepped ≡ length accounts = set_length accounts place c.step.new.self in omega arith)) ∙ at_set accounts place c.step.new.self lt in
    let back : c.undo.new.self ≡ account_at accounts place = c.undo.ensures ∙ (λ i. account_undone (there i) (c.in-Err.ensures.value_returned i)) ∙ steps.taken_back in
    logs_kept accounts (set stepped place c.undo.new.self) c.args.log.now.items c.push.new.self.items (set_kept accounts place c.step.new.self c.undo.new.self lt back) c.in-Err.ensures.items

pub returns-clause-ok : goal.returns-clause-ok
returns-clause-ok c =
    let accounts = c.args.accounts.now in
    let place = c.index_of-place.result in
    let lt : place < length accounts = omega arith in
    let here : account_at accounts place ≡ get_or accounts place c.index-accounts-place.result = at_get accounts place c.index-accounts-place.result lt in
    let moves : AccountMoves (account_at accounts place) c.step.new.self c.args.change.now c.in_ok-undo.field-0 = subst (λ (a : AccountKept). AccountMoves a c.step.new.self c.args.change.now c.in_ok-undo.field-0) (sym here) c.in_ok-undo.ensures.ok in
    let steps : AccountSteps (account_at accounts place) c.step.new.self c.args.change.now c.in-Some.undo = subst (AccountMoves (account_at accounts place) c.step.new.self c.args.change.now) c.in-Some.is moves in
    step_shown accounts place lt c.step.new.self c.args.change.now c.in-Some.undo (c.index_of-place.ensures.place ∙ c.account_id.ensures) steps

pub returns-clause-logs : goal.returns-clause-logs
returns-clause-logs c =
    let accounts = c.args.accounts.now in
    let place = c.index_of-place.result in
    let lt : place < length accounts = omega arith in
    let here : account_at accounts place ≡ get_or accounts place c.index-accounts-place.result = at_get accounts place c.index-accounts-place.result lt in
    let moves : AccountMoves (account_at accounts place) c.step.new.self c.args.change.now c.in_ok-undo.field-0 = subst (λ (a : AccountKept). AccountMoves a c.step.new.self c.args.change.now c.in_ok-undo.field-0) (sym here) c.in_ok-undo.ensures.ok in
    let steps : AccountSteps (account_at accounts place) c.step.new.self c.args.change.now c.in-Some.undo = subst (AccountMoves (account_at accounts place) c.step.new.self c.args.change.now) c.in-Some.is moves in
    step_logs accounts place lt c.step.new.self c.args.change.now c.in-Some.undo (c.index_of-place.ensures.place ∙ c.account_id.ensures) steps c.args.log.now.items c.push.new.self.items c.in_default-push.ensures.items
