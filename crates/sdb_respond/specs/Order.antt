-- The one order of refusals: of the steps by which an arrival is judged, the first that refuses answers.
use Rattle.std.specs.Prelude.{◌≡◌, ◌⊎◌, ℕ, false, List, [], ◌∷◌, Option, None, Some, Ok}
use Rattle.sdb_action.specs.declared.request.Request.{Request}
use Rattle.sdb_action.specs.Actions.{action_of}
use Rattle.sdb_action.specs.Asked.{asked}
use Rattle.sdb_answer.specs.Outcome.{outcome}
use Rattle.sdb_arrivals.specs.Queues.{in_line}
use Rattle.sdb_arrivals.specs.Reading.{IsRead, form_params, version_in}
use Rattle.sdb_arrivals.specs.Story.{Arrival, Framed}
use Rattle.sdb_cost.specs.Units.{is_refused}
use Rattle.sdb_keys.specs.declared.keys.Key.{Key}
use Rattle.sdb_pairs.specs.Accounts.{DomainEntries}
use Rattle.sdb_sign.specs.Signing.{claim_of, known_key}
use Rattle.sdb_tables.specs.declared.refusal.Refusal.{Refusal}
use Rattle.sdb_write.specs.Writes.{limit_refusal}
use Rattle.sdb_respond.specs.Judging.{SaysOnTime, claim_in, action_in, domain_says, expectation_says, framing_says, message_in, on, over, params_in, refusal_in, request_in, select_says, signature_says, token_says}
use Rattle.sdb_respond.specs.Reply.{executed_for, refused_by, reply}

-- what a step judges
pub data Judges : Type 0 where
  Message Form ActionName Version Claim KeyId Moment Signature Fields SelectText Token Domain Expectation Limits : Judges

-- the steps, in their one order
abbrev pub order : List Judges
order =
    Message
    ∷
    Form
    ∷
    ActionName
    ∷
    Version
    ∷
    Claim
    ∷
    KeyId
    ∷
    Moment
    ∷
    Signature
    ∷
    Fields
    ∷
    SelectText
    ∷
    Token
    ∷
    Domain
    ∷
    Expectation
    ∷
    Limits
    ∷
    []

-- what each step says of an arrival: its refusal, or None
abbrev pub Says : List Key → DomainEntries → Framed → Judges → Option Refusal → Type 0
Says keys accounts w Message said = said ≡ framing_says w.request
Says keys accounts w Form said = said ≡ on (message_in w) (λ m. refusal_in (form_params m.form))
Says keys accounts w ActionName said = said ≡ on (params_in w) (λ params. refusal_in (action_of params))
Says keys accounts w Version said = said ≡ on (params_in w) (λ params. refusal_in (version_in params))
Says keys accounts w Claim said = said ≡ on (params_in w) (λ params. refusal_in (claim_of params))
Says keys accounts w KeyId said = said ≡ on (claim_in w) (λ claim. refusal_in (known_key keys claim.key_id))
Says keys accounts w Moment said = SaysOnTime (claim_in w) w.moment said
Says keys accounts w Signature said = said ≡ signature_says keys w
Says keys accounts w Fields said = said ≡ on (params_in w) (λ params. on (action_in w) (λ action. refusal_in (asked action params)))
Says keys accounts w SelectText said = said ≡ on (request_in w) select_says
Says keys accounts w Token said = said ≡ on (request_in w) token_says
Says keys accounts w Domain said = said ≡ over domain_says keys accounts w
Says keys accounts w Expectation said = said ≡ over expectation_says keys accounts w
Says keys accounts w Limits said = said ≡ over limit_refusal keys accounts w

-- the refusal of the first step that refuses, or None where none does
abbrev pub IsFirst : (Judges → Option Refusal → Type 0) → List Judges → Option Refusal → Type 0
IsFirst says [] found = found ≡ None
IsFirst says (step ∷ steps) found =
    ((refusal : Refusal) × says step (Some refusal) × (found ≡ Some refusal)) ⊎ (says step None × IsFirst says steps found)

-- the first refusal of an arrival
abbrev pub IsRefusal : List Key → DomainEntries → Framed → Option Refusal → Type 0
IsRefusal keys accounts w found = IsFirst (Says keys accounts w) order found

-- an arrival that no step refuses: its request is executed for the account that signed it, and that is no refusal
pub record IsExecuted (accounts : DomainEntries) (w : Arrival) : Type 0 where
  pub account : ℕ
  pub request : Request
  pub read : w.read ≡ record { account = Some account; asked = Ok request }
  pub reply_is : reply accounts w ≡ executed_for account request accounts (in_line w)
  pub done : is_refused (outcome accounts account w.framed.moment request) ≡ false

-- a refusal answers and changes nothing; where there is none, the request is executed
abbrev pub IsAnsweredBy : DomainEntries → Arrival → Option Refusal → Type 0
IsAnsweredBy accounts w (Some refusal) = reply accounts w ≡ refused_by refusal (in_line w)
IsAnsweredBy accounts w None = IsExecuted accounts w

-- of what was read under keys, the first refusal answers, and there is one first refusal or none
pub record RefusedFirst (keys : List Key) (accounts : DomainEntries) (w : Arrival) : Type 0 where
  pub found : Option Refusal
  pub first : IsRefusal keys accounts w.framed found
  pub one : (other : Option Refusal) → IsRefusal keys accounts w.framed other → other ≡ found
  pub answers : IsAnsweredBy accounts w found

-- every arrival is answered so
abbrev pub FirstRefusalAnswers : Type 0
FirstRefusalAnswers = (keys : List Key) (accounts : DomainEntries) (w : Arrival) → IsRead keys w.framed w.read → RefusedFirst keys accounts w
