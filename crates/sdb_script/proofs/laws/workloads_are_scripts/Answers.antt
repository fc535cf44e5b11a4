use Rattle.sdb_script.specs.Connections.{none_opened}
use Rattle.sdb_script.specs.Workload.{happens_in}
use Rattle.sdb_script.proofs.Spelling.{script-tells}
use Rattle.sdb_script.proofs.WorkloadScript.{may_all_come, is_small}
use Rattle.sdb_script.proofs.laws.workloads_are_scripts.Goals as goal

pub returns-clause-script : goal.returns-clause-script
returns-clause-script c = λ n. script-tells none_opened 0 (happens_in n) (may_all_come n)

pub returns-clause-fits : goal.returns-clause-fits
returns-clause-fits c = λ n most. is_small n most
