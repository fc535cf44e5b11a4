use Rattle.sdb_record.proofs.StandsLemmas.{ground_stays}
use Rattle.sdb_record.proofs.stands.ground_stays.Goals as goal

pub returns : goal.returns
returns c = ground_stays
