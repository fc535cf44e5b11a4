use Rattle.sdb_record.proofs.StandsLemmas.{one_is_first_bad}
use Rattle.sdb_record.proofs.stands.one_is_first_bad.Goals as goal

pub returns : goal.returns
returns c = one_is_first_bad
