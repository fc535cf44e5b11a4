use Rattle.sdb_record.proofs.RecordLaws.{changes_format}
use Rattle.sdb_record.proofs.laws.changes_are_a_format.Goals as goal

pub returns : goal.returns
returns c = changes_format
