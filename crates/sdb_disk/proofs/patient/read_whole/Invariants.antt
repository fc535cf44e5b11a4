use Rattle.std.proofs.Common.{◌≤◌, length}
use Rattle.sdb_disk.proofs.patient.read_whole.Given as goal

abbrev pub invariant-reads : goal.invariant-reads
invariant-reads g l = l.filled ≤ length l.buf
