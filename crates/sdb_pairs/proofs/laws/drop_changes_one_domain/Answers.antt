use Rattle.sdb_pairs.proofs.StateLemmas.{drop_leaves}
use Rattle.sdb_pairs.proofs.laws.drop_changes_one_domain.Goals as goal

pub returns : goal.returns
returns c = drop_leaves
