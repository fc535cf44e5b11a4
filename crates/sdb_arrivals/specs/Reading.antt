-- What is read of a request. The first step that refuses decides: framing, form, action, version; then claim,
-- key, moment and signature; then fields and lists.
use Rattle.std.specs.Prelude.{◌≡◌, ℕ, List, codes, Option, Some, None, Result, Ok, Err, if◌then◌else◌}
use Rattle.std.specs.List.{AllByRecursion}
use Rattle.std.specs.Str.{bytes_eq}
use Rattle.sdb_action.specs.declared.action.Action.{Action}
use Rattle.sdb_action.specs.Actions.{action_of}
use Rattle.sdb_action.specs.Asked.{asked}
use Rattle.sdb_base.specs.Pairs.{NamedValues, value_of}
use Rattle.sdb_base.specs.Results.{◌>>=◌}
use Rattle.sdb_form.specs.Answer.{params_of}
use Rattle.sdb_form.specs.declared.fault.FormFault.{FormFault}
use Rattle.sdb_form.specs.declared.fault.FormFault.TheVariants as form_fault
use Rattle.sdb_http.specs.declared.fault.HttpFault.{HttpFault}
use Rattle.sdb_http.specs.declared.fault.HttpFault.TheVariants as http_fault
use Rattle.sdb_http.specs.Messages.{Reply, Seen}
use Rattle.sdb_keys.specs.declared.keys.Key.{Key}
use Rattle.sdb_sign.specs.Signing.{IsVerdict, Verdict}
use Rattle.sdb_tables.specs.declared.refusal.Refusal.{Refusal}
use Rattle.sdb_tables.specs.declared.refusal.Refusal.TheVariants.{InvalidHttpRequest, InvalidParameterCombination, InvalidParameterValue, MissingParameter, NoSuchVersion, OutOfMemory, RequestTooLong, URITooLong}
use Rattle.sdb_arrivals.specs.declared.read.Read.{Read}
use Rattle.sdb_arrivals.specs.Story.{Arrival, Framed}

-- the refusal that a fault of framing is
abbrev pub framing_refusal : HttpFault → Refusal
framing_refusal http_fault.HeadTooLong = URITooLong
framing_refusal http_fault.Invalid = InvalidHttpRequest
framing_refusal http_fault.BodyTooLong = RequestTooLong

-- the refusal that a fault of a form is
abbrev pub form_refusal : FormFault → Refusal
form_refusal (form_fault.NotUtf8 place) = InvalidParameterValue
form_refusal (form_fault.Repeated place) = InvalidParameterCombination
form_refusal form_fault.OutOfMemory = OutOfMemory

-- parameters, or the refusal of their form
abbrev pub params_or : Result NamedValues FormFault → Result NamedValues Refusal
params_or (Ok params) = Ok params
params_or (Err fault) = Err (form_refusal fault)

-- the parameters of a form, or its refusal
abbrev pub form_params : List ℕ → Result NamedValues Refusal
form_params form = params_or (params_of form)

-- the name of the version's parameter
unfoldable pub version_name : List ℕ
version_name = codes "Version"

-- the one version
unfoldable pub version_word : List ℕ
version_word = codes "2009-04-15"

-- the version has to be there, and the one that there is
abbrev pub one_version : Option (List ℕ) → Result (Unit {0}) Refusal
one_version None = Err MissingParameter
one_version (Some version) = if bytes_eq version version_word then Ok tt else Err NoSuchVersion

-- the version that parameters name
abbrev pub version_in : NamedValues → Result (Unit {0}) Refusal
version_in params = one_version (value_of params version_name)

-- the steps before a request is verified: form, action and version
abbrev pub opening : List ℕ → Result (NamedValues × Action) Refusal
opening form =
    form_params form >>= λ params.
    action_of params >>= λ action.
    version_in params >>= λ _.
    Ok (params, action)

-- a request that is refused before it is verified
abbrev pub refused : Refusal → Read
refused refusal = record { account = None; asked = Err refusal }

-- a request after its verdict
abbrev pub verified : NamedValues → Action → Verdict → Read
verified params action (Err refusal) = refused refusal
verified params action (Ok account) = record { account = Some account; asked = asked action params }

-- what is read of a message, after the first steps
abbrev pub IsReadAfter : List Key → ℕ → Seen → Result (NamedValues × Action) Refusal → Read → Type 0
IsReadAfter keys moment m (Err refusal) read = read ≡ refused refusal
IsReadAfter keys moment m (Ok opened) read =
    (verdict : Verdict) × IsVerdict m.verb m.host opened.0 keys moment verdict
    × (read ≡ verified opened.0 opened.1 verdict)

-- what is read of a message, or of the fault of framing in its place
abbrev pub IsReadOf : List Key → ℕ → Reply → Read → Type 0
IsReadOf keys moment (Ok m) read = IsReadAfter keys moment m (opening m.form) read
IsReadOf keys moment (Err fault) read = read ≡ refused (framing_refusal fault)

-- what is read of an arrival, at its moment
abbrev pub IsRead : List Key → Framed → Read → Type 0
IsRead keys w read = IsReadOf keys w.moment w.request read

-- of each arrival it is what is read of it
abbrev pub AreRead : List Key → List Arrival → Type 0
AreRead keys came = AllByRecursion (λ (w : Arrival). IsRead keys w.framed w.read) came
