use Rattle.std.proofs.Common.{ℕ, List, ◌∙◌, sym, ap, subst, IfOk}
use Rattle.std.specs.Map.{set_value}
use Rattle.std.specs.BTreeMap.{is_at}
use Rattle.sdb_base.specs.Texts.{text_cmp}
use Rattle.sdb_base.specs.Entries.{found}
use Rattle.sdb_domain.specs.Steps.{domain_of, SlotMoves, SlotsMove}
use Rattle.sdb_domain.proofs.SlotLemmas.{ok_weaker, err_weaker, slots_move, slot_kept}
use Rattle.sdb_domain.proofs.slot.step_slots.Goals as goal

pub returns-in-Some-clause-ok : goal.returns-in-Some-clause-ok
returns-in-Some-clause-ok c =
    let slots = c.args.slots.now in
    let change = c.args.change.now in
    let was = c.in-Some.slot.now in
    let slot = c.step_there.new.slot in
    let P : List ℕ → Type 0 = λ n. IfOk c.step_there.result (λ moved. SlotsMove slots (set_value (is_at (text_cmp n)) slots slot) change moved) in
    subst P (sym c.domain_name.ensures)
    (ok_weaker (SlotMoves was slot change) (SlotsMove slots (set_value (is_at (text_cmp (domain_of change))) slots slot) change) c.step_there.result
    (λ moved h. slots_move slots change was slot moved c.get_mut.ensures.rising (ap (found text_cmp slots) (sym c.domain_name.ensures) ∙ sym c.in-Some.ensures.value) h)
    c.step_there.ensures.ok)

pub returns-in-Some-clause-err : goal.returns-in-Some-clause-err
returns-in-Some-clause-err c =
    err_weaker c.step_there.result (slot_kept c.args.slots.now c.domain_name.result.now c.in-Some.slot.now c.step_there.new.slot (sym c.in-Some.ensures.value)) c.step_there.ensures.err
