-- What reading a form answers.
use Rattle.std.specs.Prelude.{⊤, ℕ, zero, suc, Bool, not, ◌&&◌, List, [], length, take, slice_index_or, Option, Some, None, Result, Ok, Err, if◌then◌else◌}
use Rattle.std.specs.List.{list_any}
use Rattle.std.specs.Map.{keys_of}
use Rattle.std.specs.Option.{option_or, option_map_or}
use Rattle.std.specs.Str.{bytes_eq, is_utf8}
use Rattle.form_urlencoded.specs.Form.{parse}
use Rattle.sdb_base.specs.Pairs.{NamedValues}
use Rattle.sdb_form.specs.declared.fault.FormFault.{FormFault}
use Rattle.sdb_form.specs.declared.fault.FormFault.TheVariants as variant
use Rattle.sdb_form.specs.Form.{IsParams, IsFirstNotUtf8, IsFirstRepeated}

-- this fault is the form's; want of memory may come for any form
abbrev pub IsFault : List ℕ → FormFault → Type 0
IsFault form (variant.NotUtf8 place) = IsFirstNotUtf8 form place
IsFault form (variant.Repeated place) = IsFirstRepeated form place
IsFault form variant.OutOfMemory = ⊤

-- what a form may be answered
abbrev pub IsAnswer : List ℕ → Result NamedValues FormFault → Type 0
IsAnswer form (Ok params) = IsParams form params
IsAnswer form (Err fault) = IsFault form fault

-- the least place below a number that passes a test
abbrev pub first_place : (ℕ → Bool) → ℕ → Option ℕ
first_place test zero = None
first_place test (suc n) = option_or (first_place test n) (if test n then Some n else None)

-- name and value are UTF-8
abbrev pub is_text_pair : List ℕ × List ℕ → Bool
is_text_pair pair = is_utf8 pair.0 && is_utf8 pair.1

-- the name or value at this place isn't UTF-8
abbrev pub is_spoiled : NamedValues → ℕ → Bool
is_spoiled pairs place = not (is_text_pair (slice_index_or pairs place ([], [])))

-- the name at this place stands earlier too
abbrev pub is_repeat : List (List ℕ) → ℕ → Bool
is_repeat names place = list_any (bytes_eq (slice_index_or names place [])) (take place names)

-- pairs as parameters, or the first name that stands earlier
abbrev pub if_distinct : NamedValues → Result NamedValues FormFault
if_distinct pairs =
    option_map_or (λ place. Err (variant.Repeated place)) (first_place (is_repeat (keys_of pairs)) (length pairs)) (Ok pairs)

-- pairs as parameters, or the first that isn't UTF-8, or else the first name that stands earlier
abbrev pub if_params : NamedValues → Result NamedValues FormFault
if_params pairs =
    option_map_or (λ place. Err (variant.NotUtf8 place)) (first_place (is_spoiled pairs) (length pairs)) (if_distinct pairs)

-- the parameters of a form, or its fault
unfoldable pub params_of : List ℕ → Result NamedValues FormFault
params_of form = if_params (parse form)
