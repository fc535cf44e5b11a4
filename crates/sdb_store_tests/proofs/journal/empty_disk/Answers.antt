use Rattle.std.proofs.Common.{inl, length, ap, arith}
use Rattle.sdb_store_tests.proofs.journal.empty_disk.Goals as goal

pub returns-clause-closed : goal.returns-clause-closed
returns-clause-closed c = inl (omega (arith, ap length (c.new-2.ensures.empty 2)))

pub returns-clause-settled : goal.returns-clause-settled
returns-clause-settled c = c.new-2.ensures.settled 2
