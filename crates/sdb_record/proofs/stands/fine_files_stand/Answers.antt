use Rattle.sdb_record.proofs.StandsLemmas.{fine_files_stand}
use Rattle.sdb_record.proofs.stands.fine_files_stand.Goals as goal

pub returns : goal.returns
returns c = fine_files_stand
