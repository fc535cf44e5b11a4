use Rattle.std.proofs.Common.{ap, length, drop, ◌∙◌, arith}
use Rattle.sdb_script.specs.Held.{Held}
use Rattle.sdb_script.proofs.HeldLemmas.{range-passed, range-length}
use Rattle.sdb_script.proofs.held.HeldBytes.pass.Goals as goal

pub returns : goal.returns
returns c =
    let xs = c.self.inside.buffer.items in
    let start = c.self.inside.start in
    let end = c.self.inside.end in
    let held = ap (λ (h : Held). h.bytes) c.self.view_is in
    range-passed xs start end c.args.count (omega (arith, c.requires, ap length held, range-length xs start end c.self.invariant.1)) ∙ ap (drop c.args.count) held
