use Rattle.std.proofs.Common.{◌≡◌, ◌-◌, ◌++◌}
use Rattle.sdb_format.specs.Readers.{mapped, times_at}
use Rattle.sdb_record.specs.Entries.{op_at}
use Rattle.sdb_record.proofs.entries.read_ops.Given as goal

abbrev pub invariant-loop-done : goal.invariant-loop-done
invariant-loop-done l = times_at l.count op_at l.initial.rest ≡ mapped (λ ops. l.ops ++ ops) (times_at (l.count - l.done) op_at l.rest)
