use Rattle.std.proofs.Common.{◌-◌, ap, ◌∙◌}
use Rattle.std.specs.List.{slice_range}
use Rattle.sdb_script.specs.Held.{Held}
use Rattle.sdb_script.proofs.HeldLemmas.{range-moved}
use Rattle.sdb_script.proofs.held.HeldBytes.move_to_front.Goals as goal

pub returns-clause-same : goal.returns-clause-same
returns-clause-same c =
    let start = c.self.inside.start in
    let end = c.self.inside.end in
    ap (λ l. slice_range l 0 (end - start)) c.copy_within.ensures.items
    ∙ range-moved c.self.inside.buffer.items start end c.self.invariant.0 c.self.invariant.1
    ∙ ap (λ (h : Held). h.bytes) c.self.view_is
