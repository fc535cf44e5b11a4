use Rattle.sdb_reply.proofs.FaultLemmas.{fault-length}
use Rattle.sdb_reply.proofs.faults.room.Goals as goal

pub returns-clause-enough : goal.returns-clause-enough
returns-clause-enough c = fault-length
