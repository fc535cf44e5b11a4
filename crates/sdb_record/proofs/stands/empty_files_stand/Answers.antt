use Rattle.sdb_record.proofs.StandsLemmas.{empty_files_stand}
use Rattle.sdb_record.proofs.stands.empty_files_stand.Goals as goal

pub returns : goal.returns
returns c = empty_files_stand
