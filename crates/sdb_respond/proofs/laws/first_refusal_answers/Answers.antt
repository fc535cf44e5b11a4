use Rattle.sdb_respond.proofs.OrderLemmas as lemmas
use Rattle.sdb_respond.proofs.laws.first_refusal_answers.Goals as goal

pub returns : goal.returns
returns c = lemmas.first_refusal_answers
