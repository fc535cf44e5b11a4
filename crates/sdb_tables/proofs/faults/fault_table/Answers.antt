use Rattle.std.proofs.Common.{refl}
use Rattle.sdb_tables.specs.Faults.{faults}
use Rattle.sdb_tables.proofs.Table.{codes_are_names, codes_are_distinct}
use Rattle.sdb_tables.proofs.faults.fault_table.Goals as goal

pub returns-clause-rows : goal.returns-clause-rows
unfolding faults
returns-clause-rows c = refl

pub returns-clause-named : goal.returns-clause-named
returns-clause-named c = codes_are_names

pub returns-clause-once : goal.returns-clause-once
returns-clause-once c = codes_are_distinct
