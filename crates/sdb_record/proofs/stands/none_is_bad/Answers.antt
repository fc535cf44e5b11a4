use Rattle.sdb_record.proofs.StandsLemmas.{none_is_bad}
use Rattle.sdb_record.proofs.stands.none_is_bad.Goals as goal

pub returns : goal.returns
returns c = none_is_bad
