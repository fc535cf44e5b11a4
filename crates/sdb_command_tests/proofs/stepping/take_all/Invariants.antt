use Rattle.std.proofs.Common.{◌≡◌, length}
use Rattle.sdb_command_tests.proofs.stepping.take_all.Given as goal

abbrev pub invariant-answers : goal.invariant-answers
invariant-answers g l = l.core.store ≡ l.initial.core.store

abbrev pub decreases-answers : goal.decreases-answers
decreases-answers g l = length l.core.line.out
