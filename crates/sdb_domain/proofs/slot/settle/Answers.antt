use Rattle.std.proofs.Common.{ap, unwrap_or, []}
use Rattle.std.specs.Map.{set_value}
use Rattle.std.specs.BTreeMap.{is_at}
use Rattle.sdb_base.specs.Texts.{text_cmp}
use Rattle.sdb_domain.specs.Slots.{shown}
use Rattle.sdb_domain.proofs.SlotLemmas.{settles, settles_dropped, there_given}
use Rattle.sdb_domain.proofs.slot.settle.Goals as goal

pub returns-then-close : goal.returns-then-close
returns-then-close c =
    settles_dropped c.args.slots.now c.args.name.now c.in-Some.slot.now c.close.new.slot c.remove.new.self c.get_mut.ensures.rising c.in-Some.ensures.value c.if-close.ensures.0 c.if-close.ensures.1 c.remove.ensures

pub returns-else-close : goal.returns-else-close
returns-else-close c =
    settles c.args.slots.now c.args.name.now c.in-Some.slot.now (unwrap_or (shown c.in-Some.slot.now) []) _ c.get_mut.ensures.rising c.in-Some.ensures.value (there_given (shown c.in-Some.slot.now) c.if-close.ensures.0)
    (ap (set_value (is_at (text_cmp c.args.name.now)) c.args.slots.now) c.if-close.ensures.1)
