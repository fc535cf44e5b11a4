use Rattle.sdb_form.proofs.Params.{has_answer, not_memory, only_answer}
use Rattle.sdb_form.proofs.laws.one_answer.Goals as goal

pub returns-clause-has_one : goal.returns-clause-has_one
returns-clause-has_one c = has_answer

pub returns-clause-not_memory : goal.returns-clause-not_memory
returns-clause-not_memory c = not_memory

pub returns-clause-no_other : goal.returns-clause-no_other
returns-clause-no_other c = only_answer
