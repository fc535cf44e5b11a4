use Rattle.std.specs.Result.{IfOk}
use Rattle.std.proofs.Common.{Result, Ok, Err, subst}
use Rattle.sdb_tables.specs.Answers.{Answers}
use Rattle.sdb_tables.specs.declared.refusal.Refusal.{Refusal}
use Rattle.sdb_action.specs.Lawful.{IsLawfulRequest}
use Rattle.sdb_action.proofs.LawfulLemmas.{asked-lawful}
use Rattle.sdb_answer_tests.proofs.answer.request_of.Goals as goal

holds : {A : Type 0} (P : A → Type 0) (given result : Result A Refusal) → Answers given result → IfOk given P → IfOk result P
holds P given (Err refusal) answers is = tt
holds {A} P given (Ok x) answers is = let Q : Result A Refusal → Type 0 = λ r. IfOk r P in subst Q answers is

pub returns : goal.returns
returns c = holds IsLawfulRequest _ c.read_request.result c.read_request.ensures (asked-lawful c.in_ok-action.action c.in-Ok.params)
