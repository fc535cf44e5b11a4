use Rattle.std.proofs.Common.{ap, arith}
use Rattle.sdb_script.specs.Held.{Held}
use Rattle.sdb_script.proofs.HeldLemmas.{range-grown}
use Rattle.sdb_script.proofs.held.HeldBytes.grow.Goals as goal

pub returns-in_ok-resize-clause-same : goal.returns-in_ok-resize-clause-same
returns-in_ok-resize-clause-same c =
    range-grown c.self.inside.buffer.items c.resize.new.self.items _ c.args.self.now.bytes c.self.inside.start c.self.inside.end 262144 c.in_ok-resize.ensures.items
    (omega arith) c.self.invariant.0 c.self.invariant.1 (ap (λ (h : Held). h.bytes) c.self.view_is)
