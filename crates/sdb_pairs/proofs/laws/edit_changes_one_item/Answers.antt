use Rattle.sdb_pairs.proofs.StateLemmas.{edit_leaves}
use Rattle.sdb_pairs.proofs.laws.edit_changes_one_item.Goals as goal

pub returns : goal.returns
returns c = edit_leaves
