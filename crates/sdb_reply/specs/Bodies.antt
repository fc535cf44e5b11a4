-- The body that answers a request (SimpleDB Developer Guide, "API Reference").
use Rattle.std.specs.Prelude.{ℕ, List, [], ◌∷◌, ◌++◌, ◌/◌, ◌^◌, codes, decimal}
use Rattle.sdb_tables.specs.declared.refusal.Refusal.{Refusal}
use Rattle.sdb_tables.specs.Faults.{fault_of}
use Rattle.sdb_action.specs.declared.action.Action.{Action}
use Rattle.sdb_action.specs.declared.action.Action.TheVariants.{ListDomains, DomainMetadata, GetAttributes, Select}
use Rattle.sdb_action.specs.Actions.{action_text}
use Rattle.sdb_reply.specs.declared.outcome.Outcome.{Outcome}
use Rattle.sdb_reply.specs.declared.outcome.Outcome.TheVariants.{Done, Domains, Metadata, Pairs, Items, Count, Refused}
use Rattle.sdb_reply.specs.declared.outcome.RequestId.{RequestId}
use Rattle.sdb_reply.specs.Digits.{padded}
use Rattle.sdb_reply.specs.Elements.{group}
use Rattle.sdb_reply.specs.Results.{domains, metadata, attributes, items, count}

unfoldable pub head : List ℕ
head = codes "<?xml version=\"1.0\"?>\n<"

unfoldable pub opened : List ℕ
opened = codes "Response xmlns=\"http://sdb.amazonaws.com/doc/2009-04-15/\">"

unfoldable pub before_id : List ℕ
before_id = codes "<ResponseMetadata><RequestId>"

unfoldable pub before_usage : List ℕ
before_usage = codes "</RequestId><BoxUsage>"

unfoldable pub after_usage : List ℕ
after_usage = codes "</BoxUsage></ResponseMetadata></"

unfoldable pub closed : List ℕ
closed = codes "Response>"

unfoldable pub before_code : List ℕ
before_code = codes "<?xml version=\"1.0\"?>\n<Response><Errors><Error><Code>"

unfoldable pub before_message : List ℕ
before_message = codes "</Code><Message>"

unfoldable pub after_message : List ℕ
after_message = codes "</Message><BoxUsage>"

unfoldable pub before_refused_id : List ℕ
before_refused_id = codes "</BoxUsage></Error></Errors><RequestID>"

unfoldable pub after_refused_id : List ℕ
after_refused_id = codes "</RequestID></Response>"

unfoldable pub result_word : List ℕ
result_word = codes "Result"

-- what stands between the numbers of an id
unfoldable pub between : List ℕ
between = codes "-0000-0000-0000-"

-- the units of a refused request
abbrev pub refusal_units : ℕ
refusal_units = 1000

-- an id: the connection and the request's number, in lower-case hexadecimal digits
abbrev pub id_text : RequestId → List ℕ
id_text id = padded 16 8 id.conn ++ between ++ padded 16 12 id.number

-- units of 10^-10 of an hour, as hours
abbrev pub hours_text : ℕ → List ℕ
hours_text units = decimal (units / 10 ^ 10) ++ 46 ∷ padded 10 10 units

-- what stands before the result of an action
abbrev pub opening : Action → List ℕ
opening action = head ++ action_text action ++ opened

-- what stands after it: the id, and the units that were used
abbrev pub ending : Action → RequestId → ℕ → List ℕ
ending action id units = before_id ++ id_text id ++ before_usage ++ hours_text units ++ after_usage ++ action_text action ++ closed

-- the result of an action
abbrev pub result : (action : Action) (inside : List ℕ) → List ℕ
result action inside = group (action_text action ++ result_word) inside

-- the body of a request that was done: the result where there is one, the id, and the units that it used
abbrev pub success : (action : Action) (inside : List ℕ) (id : RequestId) (units : ℕ) → List ℕ
success action inside id units = opening action ++ (inside ++ ending action id units)

-- the body of a refused request: the code and the message of its row, the units that it used, and the id
abbrev pub refused : (refusal : Refusal) (id : RequestId) (units : ℕ) → List ℕ
refused refusal id units =
    before_code ++ (fault_of refusal).code ++ before_message ++ (fault_of refusal).message ++ after_message ++ hours_text units
    ++ before_refused_id ++ id_text id ++ after_refused_id

-- the body of an outcome
unfoldable pub body_text : Outcome → RequestId → ℕ → List ℕ
body_text (Done action) id units = success action [] id units
body_text (Domains names token) id units = success ListDomains (result ListDomains (domains names token)) id units
body_text (Metadata numbers moment) id units = success DomainMetadata (result DomainMetadata (metadata numbers moment)) id units
body_text (Pairs pairs) id units = success GetAttributes (result GetAttributes (attributes pairs)) id units
body_text (Items shown token) id units = success Select (result Select (items shown token)) id units
body_text (Count number token) id units = success Select (result Select (count number token)) id units
body_text (Refused refusal) id units = refused refusal id units

-- the status of the response to an outcome
abbrev pub status_of : Outcome → ℕ
status_of (Refused refusal) = (fault_of refusal).status
status_of _ = 200
