use Rattle.sdb_script.proofs.OneReading.{tells-further}
use Rattle.sdb_script.proofs.laws.events_come_one_by_one.Goals as goal

pub returns : goal.returns
returns c = tells-further
