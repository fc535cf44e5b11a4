use Rattle.sdb_record.proofs.RecordLaws.{no_spelling_begins_another}
use Rattle.sdb_record.proofs.laws.no_spelling_begins_another.Goals as goal

pub returns : goal.returns
returns c = no_spelling_begins_another
