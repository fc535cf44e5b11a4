use Rattle.sdb_pairs.proofs.StateLemmas.{make_leaves}
use Rattle.sdb_pairs.proofs.laws.make_changes_one_domain.Goals as goal

pub returns : goal.returns
returns c = make_leaves
