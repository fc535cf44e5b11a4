use Rattle.sdb_record.proofs.StandsLemmas.{stand_for_one}
use Rattle.sdb_record.proofs.stands.stand_for_one.Goals as goal

pub returns : goal.returns
returns c = stand_for_one
