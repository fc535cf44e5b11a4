use Rattle.sdb_pairs.proofs.EditLemmas.{puts_are_edits}
use Rattle.sdb_pairs.proofs.laws.puts_are_edits.Goals as goal

pub returns : goal.returns
returns c = puts_are_edits
