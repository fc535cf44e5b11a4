use Rattle.std.proofs.Common.{◌∙◌, refl, sym, subst}
use Rattle.sdb_pairs.specs.Accounts.{AreAccounts}
use Rattle.sdb_pairs.proofs.StateLemmas.{are_accounts_state}
use Rattle.sdb_domain.specs.Slots.{accounts_shown}
use Rattle.sdb_domain.specs.Steps.{AreSettledBut}
use Rattle.sdb_domain.proofs.accounts.Accounts.apply.Goals as goal

pub invariant_of-self : goal.invariant_of-self
invariant_of-self c =
    let old = c.self.inside.accounts in
    let before : AreSettledBut old c.new-log.result.items = subst (AreSettledBut old) (sym c.new-log.ensures.items) (λ i name free. c.self.invariant.settled i name) in
    let stepped : AreSettledBut c.step_all.new.accounts c.as_slice-in-Ok.result.now = subst (AreSettledBut c.step_all.new.accounts) (sym c.as_slice-in-Ok.ensures.value) (c.in-Ok.ensures.logs.settled before) in
    record {
      settled = λ i name. c.settle_all.ensures.settled stepped i name refl;
      lawful = subst AreAccounts (sym (c.settle_all.ensures.shown ∙ c.in-Ok.ensures.ok)) (are_accounts_state (accounts_shown old) c.as_slice.result.now c.self.invariant.lawful);
    }
