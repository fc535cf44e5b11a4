use Rattle.sdb_record.proofs.StandsLemmas.{groups_lead_there}
use Rattle.sdb_record.proofs.stands.groups_lead_there.Goals as goal

pub returns : goal.returns
returns c = groups_lead_there
