-- What a line asks for.
use Rattle.std.specs.Prelude.{ℕ, List, length, nat_lt, Result, Ok, Err, if◌then◌else◌}
use Rattle.std.specs.Result.{result_map_both}
use Rattle.sdb_base.specs.Pairs.{NamedValues}
use Rattle.sdb_form.specs.declared.fault.FormFault.{FormFault}
use Rattle.sdb_form.specs.declared.fault.FormFault.TheVariants as fault
use Rattle.sdb_form.specs.Answer.{params_of}
use Rattle.sdb_tables.specs.declared.refusal.Refusal.{Refusal}
use Rattle.sdb_tables.specs.declared.refusal.Refusal.TheVariants.{RequestTooLong, InvalidParameterValue, InvalidParameterCombination, OutOfMemory}
use Rattle.sdb_action.specs.declared.action.Action.{Action}
use Rattle.sdb_action.specs.declared.request.Request.{Request}
use Rattle.sdb_action.specs.Actions.{action_of}
use Rattle.sdb_action.specs.Asked.{asked as request_of}
use Rattle.sdb_cli.specs.Lines.{most_line}

-- the refusal that a fault of the form brings
abbrev pub refusal_of_fault : FormFault → Refusal
refusal_of_fault (fault.NotUtf8 place) = InvalidParameterValue
refusal_of_fault (fault.Repeated place) = InvalidParameterCombination
refusal_of_fault fault.OutOfMemory = OutOfMemory

-- the parameters of a line, or the refusal of its form
abbrev pub line_params : List ℕ → Result NamedValues Refusal
line_params line = result_map_both (λ params. params) refusal_of_fault (params_of line)

-- the request of an action
abbrev pub requested : NamedValues → Result Action Refusal → Result Request Refusal
requested params (Err refusal) = Err refusal
requested params (Ok action) = request_of action params

-- what is asked by parameters, where the form has them
abbrev pub asked_by : Result NamedValues Refusal → Result Request Refusal
asked_by (Err refusal) = Err refusal
asked_by (Ok params) = requested params (action_of params)

-- what the line asks, or the first refusal: its length, its form, the action, its fields and lists
unfoldable pub asked : List ℕ → Result Request Refusal
asked line = if nat_lt most_line (length line) then Err RequestTooLong else asked_by (line_params line)
