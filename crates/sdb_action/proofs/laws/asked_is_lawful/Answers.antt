use Rattle.sdb_action.proofs.LawfulLemmas.{asked_is_lawful_lem}
use Rattle.sdb_action.proofs.laws.asked_is_lawful.Goals as goal

pub returns : goal.returns
returns c = asked_is_lawful_lem
