use Rattle.std.proofs.Common.{◌≡◌, Result, Err, inr, ap, ◌∙◌, sym}
use Rattle.std.specs.Result.{result_map_both}
use Rattle.sdb_base.specs.Pairs.{NamedValues}
use Rattle.sdb_form.specs.declared.fault.FormFault.{FormFault}
use Rattle.sdb_cli.specs.Line.{refusal_of_fault}
use Rattle.sdb_cli.proofs.line.read_params.Goals as goal

-- forms of one answer have one refusal
same_refusal : (a b : Result NamedValues FormFault) → a ≡ b → result_map_both (λ params. params) refusal_of_fault a ≡ result_map_both (λ params. params) refusal_of_fault b
same_refusal a b = ap (result_map_both (λ params. params) refusal_of_fault)

pub returns-in-Ok : goal.returns-in-Ok
returns-in-Ok c = same_refusal _ _ (sym (c.in-Ok.ensures.answer (λ e. cc)))

pub returns-in-Err-NotUtf8 : goal.returns-in-Err-NotUtf8
returns-in-Err-NotUtf8 c = inr (same_refusal _ _ (sym (c.in-Err-NotUtf8.ensures.answer (λ e. cc)) ∙ ap Err c.in-Err-NotUtf8.field-0-is))

pub returns-in-Err-Repeated : goal.returns-in-Err-Repeated
returns-in-Err-Repeated c = inr (same_refusal _ _ (sym (c.in-Err-Repeated.ensures.answer (λ e. cc)) ∙ ap Err c.in-Err-Repeated.field-0-is))
