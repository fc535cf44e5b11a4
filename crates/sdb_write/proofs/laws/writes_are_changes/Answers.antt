use Rattle.sdb_write.proofs.WriteLemmas.{writes_are_changes}
use Rattle.sdb_write.proofs.laws.writes_are_changes.Goals as goal

pub returns : goal.returns
returns c = writes_are_changes
