use Rattle.sdb_disk.specs.Memory.{memory_state}
use Rattle.sdb_store.specs.Kept.{Ready}
use Rattle.sdb_command_tests.proofs.stepping.the_connection_after_64_is_full.Given as goal

abbrev pub invariant-connections : goal.invariant-connections
invariant-connections g l = Ready l.core.store (memory_state l.disk)
