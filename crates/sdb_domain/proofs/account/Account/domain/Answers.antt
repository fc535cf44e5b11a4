use Rattle.std.proofs.Common.{◌∙◌, sym, ap, Some, None}
use Rattle.sdb_base.specs.Texts.{text_cmp}
use Rattle.sdb_base.specs.Entries.{found}
use Rattle.sdb_domain.specs.Slots.{domains_shown, AccountKept}
use Rattle.sdb_domain.proofs.SlotLemmas.{found_shown}
use Rattle.sdb_domain.proofs.account.Account.domain.Goals as goal

pub returns-in_err-slot : goal.returns-in_err-slot
returns-in_err-slot c =
    rw c.from_residual.ensures
    (sym (found_shown c.self.inside.slots c.args.name.now c.get.ensures.rising c.args.name.now None c.in_err-slot.ensures.value)
    ∙ ap (λ (a : AccountKept). found text_cmp (domains_shown a.slots) c.args.name.now) c.self.view_is)

pub returns : goal.returns
returns c =
    c.settled_domain.ensures
    ∙ sym (found_shown c.self.inside.slots c.args.name.now c.get.ensures.rising c.args.name.now (Some c.in_ok-slot.slot.now) c.in_ok-slot.ensures.value)
    ∙ ap (λ (a : AccountKept). found text_cmp (domains_shown a.slots) c.args.name.now) c.self.view_is
