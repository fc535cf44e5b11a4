use Rattle.sdb_lex.proofs.CutLemmas.{one_cutting}
use Rattle.sdb_lex.proofs.laws.one_cutting.Goals as goal

pub returns : goal.returns
returns c = one_cutting
