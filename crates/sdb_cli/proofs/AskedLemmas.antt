-- What a line asks, step by step.
use Rattle.std.proofs.Common.{◌≡◌, ℕ, ◌≤◌, List, length, Result, Ok, Err, IfOk, refl, ◌∙◌, ap, subst}
use Rattle.std.proofs.lemmas.Bool.{le-ltb}
use Rattle.sdb_base.specs.Pairs.{NamedValues}
use Rattle.sdb_tables.specs.Answers.{Answers}
use Rattle.sdb_tables.specs.declared.refusal.Refusal.{Refusal}
use Rattle.sdb_action.specs.declared.action.Action.{Action}
use Rattle.sdb_action.specs.Actions.{action_of}
use Rattle.sdb_action.specs.Asked.{asked as request_of}
use Rattle.sdb_cli.specs.Line.{asked, asked_by, line_params, requested}
use Rattle.sdb_cli.specs.Lines.{most_line}

pub asked-short : (line : List ℕ) → length line ≤ most_line → asked line ≡ asked_by (line_params line)
unfolding asked
asked-short line short = rw (le-ltb most_line (length line) short) refl

pub asked-params_err : (line : List ℕ) (refusal : Refusal) → length line ≤ most_line → line_params line ≡ Err refusal → asked line ≡ Err refusal
asked-params_err line refusal short params = asked-short line short ∙ ap asked_by params

pub asked-action_err : (line : List ℕ) (params : NamedValues) (refusal : Refusal) → length line ≤ most_line → line_params line ≡ Ok params → action_of params ≡ Err refusal → asked line ≡ Err refusal
asked-action_err line params refusal short read action = asked-short line short ∙ ap asked_by read ∙ ap (requested params) action

pub asked-request : (line : List ℕ) (params : NamedValues) (action : Action) → length line ≤ most_line → line_params line ≡ Ok params → action_of params ≡ Ok action → asked line ≡ request_of action params
asked-request line params action short read is_action = asked-short line short ∙ ap asked_by read ∙ ap (requested params) is_action

-- an answer of which the fact holds where it is a value
pub answers_holds : {A : Type 0} (P : A → Type 0) (given result : Result A Refusal) → Answers given result → IfOk given P → IfOk result P
answers_holds P given (Err refusal) answers holds = tt
answers_holds {A} P given (Ok x) answers holds = let Q : Result A Refusal → Type 0 = λ r. IfOk r P in subst Q answers holds
