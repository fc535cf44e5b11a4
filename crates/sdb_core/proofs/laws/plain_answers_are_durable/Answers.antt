use Rattle.sdb_core.proofs.LawLemmas.{plain_durable}
use Rattle.sdb_core.proofs.laws.plain_answers_are_durable.Goals as goal

pub returns : goal.returns
returns c = plain_durable
