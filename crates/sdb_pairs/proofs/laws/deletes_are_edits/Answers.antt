use Rattle.sdb_pairs.proofs.EditLemmas.{deletes_are_edits}
use Rattle.sdb_pairs.proofs.laws.deletes_are_edits.Goals as goal

pub returns : goal.returns
returns c = deletes_are_edits
