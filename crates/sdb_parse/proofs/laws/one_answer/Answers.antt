use Rattle.sdb_parse.proofs.ReadLemmas.{one_answer}
use Rattle.sdb_parse.proofs.laws.one_answer.Goals as goal

pub returns : goal.returns
returns c = one_answer
