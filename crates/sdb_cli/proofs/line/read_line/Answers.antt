use Rattle.std.proofs.Common.{inl, inr, arith, sym, ◌∙◌, subst}
use Rattle.std.proofs.lemmas.Result.{err_from_is_err_and}
use Rattle.sdb_tables.specs.Answers.{Answers}
use Rattle.sdb_cli.proofs.LongLemmas.{asked-long}
use Rattle.sdb_cli.proofs.AskedLemmas.{answers_holds, asked-params_err, asked-action_err, asked-request}
use Rattle.sdb_action.specs.Lawful.{IsLawfulRequest}
use Rattle.sdb_action.proofs.LawfulLemmas.{asked-lawful}
use Rattle.sdb_cli.proofs.line.read_line.Goals as goal

pub returns-then-line-gt-MOST_LINE-clause-answer : goal.returns-then-line-gt-MOST_LINE-clause-answer
returns-then-line-gt-MOST_LINE-clause-answer c = inr (asked-long c.args.line.now (omega arith))

pub returns-in_err-params-clause-answer : goal.returns-in_err-params-clause-answer
returns-in_err-params-clause-answer c =
    let p = err_from_is_err_and c.from_residual.result c.from_residual.ensures.1 in
    rw (p.1, p.2) (elim c.in_err-params.ensures [ inl memory ↦ inl memory | inr fault ↦ inr (asked-params_err c.args.line.now c.in_err-params.field-0.0 (omega arith) fault) ])

pub returns-in_err-action-clause-answer : goal.returns-in_err-action-clause-answer
returns-in_err-action-clause-answer c =
    let p = err_from_is_err_and c.from_residual-in_err-action.result c.from_residual-in_err-action.ensures.1 in
    rw (p.1, p.2) (inr (asked-action_err c.args.line.now c.in_ok-params.params c.in_err-action.field-0.0 (omega arith) c.in_ok-params.ensures (sym c.read_action.ensures ∙ c.in_err-action.was)))

pub returns-clause-answer : goal.returns-clause-answer
returns-clause-answer c =
    let same = asked-request c.args.line.now c.in_ok-params.params c.in_ok-action.action (omega arith) c.in_ok-params.ensures (sym c.read_action.ensures ∙ c.in_ok-action.was) in
    subst (λ given. Answers given c.read_request.result) (sym same) c.read_request.ensures

pub returns-clause-lawful : goal.returns-clause-lawful
returns-clause-lawful c = answers_holds IsLawfulRequest _ c.read_request.result c.read_request.ensures (asked-lawful c.in_ok-action.action c.in_ok-params.params)
