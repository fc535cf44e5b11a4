use Rattle.sdb_disk.proofs.tests.a_durable_write_outlives_a_crash.Goals as goal

pub write_durably-requires-clause-settled : goal.write_durably-requires-clause-settled
write_durably-requires-clause-settled g c = c.with_files-disk.ensures.settled 0
