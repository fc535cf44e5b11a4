use Rattle.sdb_store.specs.Kept.{Ready}
use Rattle.sdb_command_tests.proofs.stepping.in_turn.Given as goal

abbrev pub invariant-bytes : goal.invariant-bytes
invariant-bytes g l = Ready l.core.store (g.D.Disk.state l.disk)
