use Rattle.sdb_record.proofs.RecordLaws.{change_format}
use Rattle.sdb_record.proofs.laws.one_change_is_a_format.Goals as goal

pub returns : goal.returns
returns c = change_format
