-- What the steps judge by which an arrival is refused, and what each of them says.
use Rattle.std.specs.Prelude.{◌≡◌, ℕ, List, Option, None, Some, option_and_then, Result, Ok, Err}
use Rattle.std.specs.Result.{result_ok}
use Rattle.sha2.specs.Sha256.{sha256}
use Rattle.sdb_action.specs.declared.action.Action.{Action}
use Rattle.sdb_action.specs.declared.request.Request.{Request}
use Rattle.sdb_action.specs.declared.request.Request.TheVariants.{ListDomains, DomainMetadata, Put, BatchPut, Get, Delete, BatchDelete, Select}
use Rattle.sdb_action.specs.Actions.{action_of}
use Rattle.sdb_action.specs.Asked.{asked}
use Rattle.sdb_answer.specs.Listing.{listed_after}
use Rattle.sdb_answer.specs.Selecting.{begun_after}
use Rattle.sdb_arrivals.specs.Reading.{form_params, framing_refusal}
use Rattle.sdb_arrivals.specs.Story.{Framed}
use Rattle.sdb_base.specs.Pairs.{NamedValues}
use Rattle.sdb_http.specs.Messages.{Reply, Seen}
use Rattle.sdb_keys.specs.declared.keys.Key.{Key}
use Rattle.sdb_pairs.specs.Accounts.{DomainEntries, ItemEntries, items_of, pairs_at}
use Rattle.sdb_pairs.specs.Changes.{items_or_none}
use Rattle.sdb_parse.specs.declared.select.Select.{Select as Tree}
use Rattle.sdb_parse.specs.Computed.{parsed}
use Rattle.sdb_parse.specs.Tally.{by_attr}
use Rattle.sdb_sign.specs.Canon.{text_to_sign}
use Rattle.sdb_sign.specs.Fresh.{ReadsAs, in_time}
use Rattle.sdb_sign.specs.Signing.{Claimed, claim_of, known_key, signed_by}
use Rattle.sdb_tables.specs.declared.refusal.Refusal.{Refusal}
use Rattle.sdb_tables.specs.declared.refusal.Refusal.TheVariants.{NoSuchDomain}
use Rattle.sdb_write.specs.Expectation.{unmet}

-- the refusal in an answer, where it is one
abbrev pub refusal_in : {A : Type 0} → Result A Refusal → Option Refusal
refusal_in (Ok value) = None
refusal_in (Err refusal) = Some refusal

-- a step judges what an earlier step found; where that found nothing, it refuses nothing
abbrev pub on : {A : Type 0} → Option A → (A → Option Refusal) → Option Refusal
on None judge = None
on (Some value) judge = judge value

-- ---- what steps find

-- the message
abbrev pub message_in : Framed → Option Seen
message_in w = result_ok w.request

-- the parameters of its form
abbrev pub params_in : Framed → Option NamedValues
params_in w = option_and_then (λ (m : Seen). result_ok (form_params m.form)) (message_in w)

-- the action that they name
abbrev pub action_in : Framed → Option Action
action_in w = option_and_then (λ params. result_ok (action_of params)) (params_in w)

-- what they say of their signature
abbrev pub claim_in : Framed → Option Claimed
claim_in w = option_and_then (λ params. result_ok (claim_of params)) (params_in w)

-- the account and the secret of the key that they name
abbrev pub key_in : List Key → Framed → Option (ℕ × List ℕ)
key_in keys w = option_and_then (λ (claim : Claimed). result_ok (known_key keys claim.key_id)) (claim_in w)

-- the request that the action makes of them
abbrev pub request_in : Framed → Option Request
request_in w = option_and_then (λ params. option_and_then (λ action. result_ok (asked action params)) (action_in w)) (params_in w)

-- ---- steps of the message and of its signature

-- a fault of framing
abbrev pub framing_says : Reply → Option Refusal
framing_says (Ok m) = None
framing_says (Err fault) = Some (framing_refusal fault)

-- the moment of a claim, as it reads, against the moment at which the request came
pub record SaysInTime (claim : Claimed) (now : ℕ) (said : Option Refusal) : Type 0 where
  pub read : Option ℕ
  pub reads : ReadsAs claim.moment read
  pub says : said ≡ refusal_in (in_time claim.kind now read)

-- the same, where there is a claim
abbrev pub SaysOnTime : Option Claimed → ℕ → Option Refusal → Type 0
SaysOnTime None now said = said ≡ None
SaysOnTime (Some claim) now said = SaysInTime claim now said

-- the signature under the secret of the key
abbrev pub signature_says : List Key → Framed → Option Refusal
signature_says keys w =
    on (message_in w) (λ m.
    on (params_in w) (λ params.
    on (claim_in w) (λ claim.
    on (key_in keys w) (λ key. refusal_in (signed_by key (text_to_sign m.verb m.host params) claim.signature)))))

-- ---- steps of the request

-- the expression of a Select
abbrev pub select_says : Request → Option Refusal
select_says (Select expression token) = refusal_in (parsed expression)
select_says request = None

-- the token of a list of domains, and of a Select, which is that of its expression and its order
abbrev pub token_says : Request → Option Refusal
token_says (ListDomains most token) = refusal_in (listed_after token)
token_says (Select expression token) =
    on (result_ok (parsed expression)) (λ (s : Tree). refusal_in (begun_after (sha256 expression) (by_attr s.sort) token))
token_says request = None

-- ---- steps of the request over the accounts

-- a domain has to be there
abbrev pub absent : Option ItemEntries → Option Refusal
absent None = Some NoSuchDomain
absent (Some items) = None

-- the domain that a request names, but not one that is to be created or deleted
abbrev pub domain_says : DomainEntries → ℕ → Request → Option Refusal
domain_says accounts account (DomainMetadata domain) = absent (items_of accounts account domain)
domain_says accounts account (Put domain item expect) = absent (items_of accounts account domain)
domain_says accounts account (BatchPut domain items) = absent (items_of accounts account domain)
domain_says accounts account (Get domain item names) = absent (items_of accounts account domain)
domain_says accounts account (Delete domain item expect) = absent (items_of accounts account domain)
domain_says accounts account (BatchDelete domain items) = absent (items_of accounts account domain)
domain_says accounts account (Select expression token) =
    on (result_ok (parsed expression)) (λ (s : Tree). absent (items_of accounts account s.domain))
domain_says accounts account request = None

-- what a write expects of its item, as it is
abbrev pub expectation_says : DomainEntries → ℕ → Request → Option Refusal
expectation_says accounts account (Put domain item expect) =
    unmet expect (pairs_at (items_or_none accounts account domain) item.name)
expectation_says accounts account (Delete domain item expect) =
    unmet expect (pairs_at (items_or_none accounts account domain) item.name)
expectation_says accounts account request = None

-- such a step, for the account of the key and its request
abbrev pub over : (DomainEntries → ℕ → Request → Option Refusal) → List Key → DomainEntries → Framed → Option Refusal
over judge keys accounts w = on (key_in keys w) (λ key. on (request_in w) (judge accounts key.0))
