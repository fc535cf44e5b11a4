use Rattle.std.proofs.Common.{◌+◌, ◌-◌, ◌++◌, sym, ◌∙◌, ap, arith}
use Rattle.sdb_format.specs.Readers.{mapped, times_at}
use Rattle.sdb_format.proofs.FormatLaws.{times_step}
use Rattle.sdb_record.specs.Entries.{change_at}
use Rattle.sdb_record.proofs.read.read_list.Goals as goal

pub loop-done-preserved : goal.loop-done-preserved
loop-done-preserved c =
    let count = c.in_ok-count.count in
    let left = count - (c.loop-done.done + 1) in
    c.loop-done.invariant
    ∙ times_step change_at (count - c.loop-done.done) left c.loop-done.changes c.in_ok-change.change c.loop-done.rest.now c.in_ok-change.next.now (omega arith) c.in_ok-change.ensures.ok
    ∙ ap (λ xs. mapped (λ ys. xs ++ ys) (times_at left change_at c.in_ok-change.next.now)) (sym c.in_ok-push.ensures.ok)
