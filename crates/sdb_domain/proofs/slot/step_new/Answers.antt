use Rattle.std.proofs.Common.{◌≡◌, ◌∙◌, refl, sym, ap, None, option_and_then}
use Rattle.sdb_domain.specs.Slots.{shown}
use Rattle.sdb_domain.specs.Steps.{items_after}
use Rattle.sdb_domain.specs.declared.slot.Step.TheVariants.{Slot as SlotWas}
use Rattle.sdb_domain.proofs.EntryViews.{none_from}
use Rattle.sdb_domain.proofs.SlotLemmas.{slots_none, slots_new}
use Rattle.sdb_domain.proofs.slot.step_new.Goals as goal

pub returns-in_default-clause-ok : goal.returns-in_default-clause-ok
returns-in_default-clause-ok c =
    let none : None ≡ items_after None c.args.change.now = sym (ap (option_and_then shown) (none_from c.in_ok-slot.field-0 c.in_default.not-Some)) ∙ c.in_ok-slot.ensures in
    (refl, slots_none c.args.slots.now c.args.change.now c.requires.rising c.requires.none none)

pub returns-clause-ok : goal.returns-clause-ok
returns-clause-ok c =
    let shows : shown c.in-Some.slot ≡ items_after None c.args.change.now = sym (ap (option_and_then shown) c.in-Some.is) ∙ c.in_ok-slot.ensures in
    slots_new c.args.slots.now c.args.change.now c.in_ok-name.name c.in-Some.slot
    (record { name = c.in_ok-name.name; step = SlotWas None; was = record { count = 0; weight = 0 }; now = c.weigh-now.result })
    c.set.new.self c.requires.rising c.requires.none (c.in_ok-name.ensures ∙ c.domain_name.ensures) shows refl c.in_ok-set.ensures.ok
    (record { name = c.in_ok-name.ensures ∙ c.domain_name.ensures; was_count = refl; was_weight = refl; now_count = c.weigh-now.ensures.count; now_weight = c.weigh-now.ensures.weight })
