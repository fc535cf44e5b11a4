use Rattle.std.proofs.Common.{◌≡◌, sym, subst}
use Rattle.std.proofs.lemmas.Result.{IfOk-weaker}
use Rattle.sdb_action.specs.Lawful.{IsLawfulRequest}
use Rattle.sdb_action.proofs.LawfulLemmas.{asked_is_lawful_lem}
use Rattle.sdb_answer_tests.proofs.write.request_of.Goals as goal

pub returns-clause-lawful : goal.returns-clause-lawful
returns-clause-lawful c =
    IfOk-weaker c.only_writes.result (λ given. given ≡ c.in_ok-read_request.field-0) IsLawfulRequest
    (λ given same. subst IsLawfulRequest (sym same) (asked_is_lawful_lem _ _ _ c.in_ok-read_request.ensures))
    c.only_writes.ensures.same
