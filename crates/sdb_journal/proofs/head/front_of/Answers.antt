use Rattle.std.proofs.Common.{refl}
use Rattle.sdb_record.specs.Journals.{header}
use Rattle.sdb_journal.proofs.head.front_of.Goals as goal

pub returns : goal.returns
unfolding header
returns c = refl
