use Rattle.std.proofs.Common.{◌+◌, ◌-◌, ◌++◌, sym, ◌∙◌, ap, arith}
use Rattle.sdb_format.specs.Readers.{mapped, times_at}
use Rattle.sdb_format.proofs.FormatLaws.{times_step}
use Rattle.sdb_record.specs.Entries.{op_at}
use Rattle.sdb_record.proofs.entries.read_ops.Goals as goal

pub loop-done-preserved : goal.loop-done-preserved
loop-done-preserved c =
    let count = c.in_ok-count.count in
    let left = count - (c.loop-done.done + 1) in
    c.loop-done.invariant
    ∙ times_step op_at (count - c.loop-done.done) left c.loop-done.ops c.in_ok-op.op c.loop-done.rest.now c.in_ok-op.next.now (omega arith) c.in_ok-op.ensures.ok
    ∙ ap (λ xs. mapped (λ ys. xs ++ ys) (times_at left op_at c.in_ok-op.next.now)) (sym c.in_ok-push.ensures.ok)
