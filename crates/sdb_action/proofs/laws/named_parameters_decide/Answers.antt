use Rattle.sdb_action.proofs.AskedLemmas.{named_decide}
use Rattle.sdb_action.proofs.laws.named_parameters_decide.Goals as goal

pub returns : goal.returns
returns c = named_decide
