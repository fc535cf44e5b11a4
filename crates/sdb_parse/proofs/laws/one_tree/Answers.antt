use Rattle.sdb_parse.proofs.ReadLemmas.{one_tree}
use Rattle.sdb_parse.proofs.laws.one_tree.Goals as goal

pub returns : goal.returns
returns c = one_tree
