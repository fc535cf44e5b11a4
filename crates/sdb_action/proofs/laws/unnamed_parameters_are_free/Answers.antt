use Rattle.sdb_action.proofs.AskedLemmas.{unnamed_is_free}
use Rattle.sdb_action.proofs.laws.unnamed_parameters_are_free.Goals as goal

pub returns : goal.returns
returns c = unnamed_is_free
