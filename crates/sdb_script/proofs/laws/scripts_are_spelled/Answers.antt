use Rattle.std.proofs.Common.{None, refl}
use Rattle.sdb_script.specs.Connections.{none_opened}
use Rattle.sdb_script.proofs.Spelling.{script-tells, tells-may, text-is_script}
use Rattle.sdb_script.proofs.laws.scripts_are_spelled.Goals as goal

pub returns-clause-told : goal.returns-clause-told
returns-clause-told c = λ events may. script-tells none_opened 0 events may

pub returns-clause-may_come : goal.returns-clause-may_come
returns-clause-may_come c = λ bytes events tells. tells-may none_opened 0 bytes events None tells

pub returns-clause-spelled : goal.returns-clause-spelled
returns-clause-spelled c = λ bytes events tells. text-is_script none_opened 0 bytes events None tells refl
