use Rattle.std.proofs.Common.{◌≡◌, ◌-◌, ◌++◌}
use Rattle.sdb_format.specs.Readers.{mapped, times_at}
use Rattle.sdb_record.specs.Entries.{change_at}
use Rattle.sdb_record.proofs.read.read_list.Given as goal

abbrev pub invariant-loop-done : goal.invariant-loop-done
invariant-loop-done l = times_at l.count change_at l.initial.rest ≡ mapped (λ changes. l.changes ++ changes) (times_at (l.count - l.done) change_at l.rest)
