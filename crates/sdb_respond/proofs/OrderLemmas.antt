-- The first refusal of what was read, step by step.
use Rattle.std.proofs.Common.{◌≡◌, ℕ, List, [], ◌∷◌, true, false, Option, None, Some, Result, Ok, Err, inl, inr, refl, sym, ap, subst, ◌∙◌, if◌then◌else◌}
use Rattle.std.specs.Prelude.{option_and_then}
use Rattle.std.specs.Result.{result_ok}
use Rattle.std.specs.Str.{bytes_eq}
use Rattle.sdb_action.specs.declared.action.Action.{Action}
use Rattle.sdb_action.specs.declared.request.Request.{Request}
use Rattle.sdb_action.specs.Actions.{action_of}
use Rattle.sdb_action.specs.Asked.{asked}
use Rattle.sdb_answer.specs.Outcome.{changes_of, outcome}
use Rattle.sdb_arrivals.specs.declared.read.Read.{Read}
use Rattle.sdb_arrivals.specs.Queues.{in_line}
use Rattle.sdb_arrivals.specs.Reading.{IsRead, IsReadAfter, IsReadOf, form_params, framing_refusal, refused, verified, version_in}
use Rattle.sdb_arrivals.specs.Story.{Arrival, Framed}
use Rattle.sdb_base.specs.Pairs.{NamedValues}
use Rattle.sdb_base.specs.Results.{◌>>=◌}
use Rattle.sdb_http.specs.Messages.{Reply, Seen}
use Rattle.sdb_keys.specs.declared.keys.Key.{Key}
use Rattle.sdb_pairs.specs.Accounts.{DomainEntries}
use Rattle.sdb_sign.specs.Canon.{text_to_sign}
use Rattle.sdb_sign.specs.Fresh.{ReadsAs, in_time}
use Rattle.sdb_sign.specs.Signing.{Claimed, Then, Verdict, claim_of, known_key, signed_by, signature_of}
use Rattle.sdb_tables.specs.declared.refusal.Refusal.{Refusal}
use Rattle.sdb_tables.specs.declared.refusal.Refusal.TheVariants.{SignatureDoesNotMatch}
use Rattle.sdb_write.specs.Writes.{limit_refusal}
use Rattle.sdb_respond.specs.Judging.{SaysOnTime, action_in, claim_in, domain_says, expectation_says, framing_says, key_in, message_in, on, over, params_in, refusal_in, request_in, select_says, signature_says, token_says}
use Rattle.sdb_respond.specs.Order.{IsAnsweredBy, IsFirst, Judges, Message, Form, ActionName, Version, Claim, KeyId, Moment, Signature, Fields, SelectText, Token, Domain, Expectation, Limits, RefusedFirst, Says, order}
use Rattle.sdb_respond.specs.Reply.{executed_for, refused_by, reply, reply_for, reply_in_line}
use Rattle.sdb_respond.proofs.FirstLemmas.{chosen-first, first_among, found-some, on-some, one_first, one_says, says-none, says-some}
use Rattle.sdb_respond.proofs.OutcomeLemmas.{Comes, outcome_comes, said_of, told_refused}

-- the steps from one on have a first refusal, which answers
pub record Decided (keys : List Key) (accounts : DomainEntries) (w : Arrival) (steps : List Judges) : Type 0 where
  pub found : Option Refusal
  pub first : IsFirst (Says keys accounts w.framed) steps found
  pub answers : IsAnsweredBy accounts w found

goes : (keys : List Key) (accounts : DomainEntries) (w : Arrival) (step : Judges) (steps : List Judges) → Says keys accounts w.framed step None → Decided keys accounts w steps
    → Decided keys accounts w (step ∷ steps)
goes keys accounts w step steps said d = record { found = d.found; first = inr (said, d.first); answers = d.answers }

stops : (keys : List Key) (accounts : DomainEntries) (w : Arrival) (step : Judges) (steps : List Judges) (refusal : Refusal) → Says keys accounts w.framed step (Some refusal)
    → reply accounts w ≡ refused_by refusal (in_line w) → Decided keys accounts w (step ∷ steps)
stops keys accounts w step steps refusal said answered = record { found = Some refusal; first = inl (refusal, said, refl); answers = answered }

-- ---- replies by what was read

reply_read : (accounts : DomainEntries) (w : Arrival) (read : Read) → w.read ≡ read → reply accounts w ≡ reply_for read.account accounts (in_line (record { framed = w.framed; read = read }))
unfolding reply_in_line
reply_read accounts w read is = ap (λ r. reply_for r.account accounts (in_line (record { framed = w.framed; read = r }))) is

reply_refused : (accounts : DomainEntries) (w : Arrival) (refusal : Refusal) → w.read ≡ refused refusal → reply accounts w ≡ refused_by refusal (in_line w)
reply_refused accounts w refusal is = reply_read accounts w (refused refusal) is

reply_unasked : (accounts : DomainEntries) (w : Arrival) (account : ℕ) (refusal : Refusal) → w.read ≡ record { account = Some account; asked = Err refusal } → reply accounts w ≡ refused_by refusal (in_line w)
reply_unasked accounts w account refusal is = reply_read accounts w (record { account = Some account; asked = Err refusal }) is

reply_asked : (accounts : DomainEntries) (w : Arrival) (account : ℕ) (request : Request) → w.read ≡ record { account = Some account; asked = Ok request } → reply accounts w ≡ executed_for account request accounts (in_line w)
reply_asked accounts w account request is = reply_read accounts w (record { account = Some account; asked = Ok request }) is

-- ---- the steps over the accounts

abbrev pub last_steps : List Judges
last_steps = SelectText ∷ Token ∷ Domain ∷ Expectation ∷ Limits ∷ []

-- what those steps say
chosen : List Key → DomainEntries → Framed → Judges → Option Refusal
chosen keys accounts w SelectText = on (request_in w) select_says
chosen keys accounts w Token = on (request_in w) token_says
chosen keys accounts w Domain = over domain_says keys accounts w
chosen keys accounts w Expectation = over expectation_says keys accounts w
chosen keys accounts w Limits = over limit_refusal keys accounts w
chosen keys accounts w _ = None

over_some : (judge : DomainEntries → ℕ → Request → Option Refusal) (keys : List Key) (accounts : DomainEntries) (w : Framed) (key : ℕ × List ℕ) (request : Request) → key_in keys w ≡ Some key → request_in w ≡ Some request
    → over judge keys accounts w ≡ judge accounts key.0 request
over_some judge keys accounts w key request is asks =
    on-some (key_in keys w) key (λ k. on (request_in w) (judge accounts k.0)) is ∙ on-some (request_in w) request (judge accounts key.0) asks

chosen_said : (keys : List Key) (accounts : DomainEntries) (w : Framed) (key : ℕ × List ℕ) (request : Request) → key_in keys w ≡ Some key → request_in w ≡ Some request
    → first_among (chosen keys accounts w) last_steps ≡ said_of accounts key.0 request
unfolding chosen
chosen_said keys accounts w key request is asks =
    let s = on-some (request_in w) request select_says asks in
    let t = on-some (request_in w) request token_says asks in
    let d = over_some domain_says keys accounts w key request is asks in
    let x = over_some expectation_says keys accounts w key request is asks in
    let l = over_some limit_refusal keys accounts w key request is asks in
    rw (s, t, d, x, l) refl

answered : (accounts : DomainEntries) (w : Arrival) (account : ℕ) (request : Request) → w.read ≡ record { account = Some account; asked = Ok request } → (found : Option Refusal)
    → Comes found (outcome accounts account w.framed.moment request) (changes_of accounts account request) → IsAnsweredBy accounts w found
answered accounts w account request is None comes =
    record { account = account; request = request; read = is; reply_is = reply_asked accounts w account request is; done = comes }
answered accounts w account request is (Some refusal) comes =
    reply_asked accounts w account request is ∙ told_refused account request accounts (in_line w) refusal comes.0 comes.1

pub by_outcome : (keys : List Key) (accounts : DomainEntries) (w : Arrival) (key : ℕ × List ℕ) (request : Request) → key_in keys w.framed ≡ Some key → request_in w.framed ≡ Some request
    → w.read ≡ record { account = Some key.0; asked = Ok request } → Decided keys accounts w last_steps
unfolding chosen
by_outcome keys accounts w key request is asks read = record {
  found = first_among (chosen keys accounts w.framed) last_steps;
  first = chosen-first (Says keys accounts w.framed) (chosen keys accounts w.framed) last_steps (refl, (refl, (refl, (refl, (refl, tt)))));
  answers =
      subst (IsAnsweredBy accounts w) (sym (chosen_said keys accounts w.framed key request is asks))
      (answered accounts w key.0 request read (said_of accounts key.0 request) (outcome_comes accounts key.0 w.framed.moment request));
}

-- ---- what parameters ask

-- what was found of a request before its fields are read
record Found (keys : List Key) (w : Framed) (m : Seen) (params : NamedValues) (action : Action) (claim : Claimed) (key : ℕ × List ℕ) : Type 0 where
  message : message_in w ≡ Some m
  params_are : params_in w ≡ Some params
  action_is : action_in w ≡ Some action
  claim_is : claim_in w ≡ Some claim
  key_is : key_in keys w ≡ Some key

by_asked : (keys : List Key) (accounts : DomainEntries) (w : Arrival) (m : Seen) (params : NamedValues) (action : Action) (claim : Claimed) (key : ℕ × List ℕ) → Found keys w.framed m params action claim key
    → (asks : Result Request Refusal) → asked action params ≡ asks → w.read ≡ record { account = Some key.0; asked = asks } → Decided keys accounts w (Fields ∷ last_steps)
by_asked keys accounts w m params action claim key f (Err refusal) e read =
    stops keys accounts w Fields last_steps refusal
    (says-some (action_in w.framed) action (λ a. asked a params) refusal f.action_is e
    ∙ sym (on-some (params_in w.framed) params (λ p. on (action_in w.framed) (λ a. refusal_in (asked a p))) f.params_are))
    (reply_unasked accounts w key.0 refusal read)
by_asked keys accounts w m params action claim key f (Ok request) e read =
    goes keys accounts w Fields last_steps
    (says-none (action_in w.framed) action (λ a. asked a params) request f.action_is e
    ∙ sym (on-some (params_in w.framed) params (λ p. on (action_in w.framed) (λ a. refusal_in (asked a p))) f.params_are))
    (by_outcome keys accounts w key request f.key_is
    (ap (λ o. option_and_then (λ p. option_and_then (λ a. result_ok (asked a p)) (action_in w.framed)) o) f.params_are ∙ found-some (action_in w.framed) action (λ a. asked a params) request f.action_is e)
    read)

-- ---- the signature

pub signed_account : (key : ℕ × List ℕ) (text signature : List ℕ) (account : ℕ) → signed_by key text signature ≡ Ok account → account ≡ key.0
signed_account key text signature account is =
    elim (bytes_eq signature (signature_of key.1 text)) as (λ b. (if b then Ok key.0 else Err SignatureDoesNotMatch) ≡ Ok account → account ≡ key.0) [
      | true ↦ λ e. cc
      | false ↦ λ e. cc
    ] is

signature_said : (keys : List Key) (accounts : DomainEntries) (w : Framed) (m : Seen) (params : NamedValues) (action : Action) (claim : Claimed) (key : ℕ × List ℕ) → Found keys w m params action claim key
    → signature_says keys w ≡ refusal_in (signed_by key (text_to_sign m.verb m.host params) claim.signature)
signature_said keys accounts w m params action claim key f =
    on-some (message_in w) m _ f.message ∙ on-some (params_in w) params _ f.params_are ∙ on-some (claim_in w) claim _ f.claim_is ∙ on-some (key_in keys w) key _ f.key_is

by_signature : (keys : List Key) (accounts : DomainEntries) (w : Arrival) (m : Seen) (params : NamedValues) (action : Action) (claim : Claimed) (key : ℕ × List ℕ) → Found keys w.framed m params action claim key
    → (signed : Verdict) → signed_by key (text_to_sign m.verb m.host params) claim.signature ≡ signed → w.read ≡ verified params action signed → Decided keys accounts w (Signature ∷ Fields ∷ last_steps)
by_signature keys accounts w m params action claim key f (Err refusal) e read =
    stops keys accounts w Signature (Fields ∷ last_steps) refusal (ap refusal_in (sym e) ∙ sym (signature_said keys accounts w.framed m params action claim key f)) (reply_refused accounts w refusal read)
by_signature keys accounts w m params action claim key f (Ok account) e read =
    let same : account ≡ key.0 = signed_account key (text_to_sign m.verb m.host params) claim.signature account e in
    goes keys accounts w Signature (Fields ∷ last_steps) (ap refusal_in (sym e) ∙ sym (signature_said keys accounts w.framed m params action claim key f))
    (by_asked keys accounts w m params action claim key f (asked action params) refl (read ∙ ap (λ n. record { account = Some n; asked = asked action params }) same))

-- ---- the moment

by_time : (keys : List Key) (accounts : DomainEntries) (w : Arrival) (m : Seen) (params : NamedValues) (action : Action) (claim : Claimed) (key : ℕ × List ℕ) → Found keys w.framed m params action claim key
    → (read : Option ℕ) → ReadsAs claim.moment read → (timely : Result (Unit {0}) Refusal) → in_time claim.kind w.framed.moment read ≡ timely
    → (verdict : Verdict) → verdict ≡ (timely >>= λ _. signed_by key (text_to_sign m.verb m.host params) claim.signature) → w.read ≡ verified params action verdict
    → Decided keys accounts w (Moment ∷ Signature ∷ Fields ∷ last_steps)
by_time keys accounts w m params action claim key f read reads (Err refusal) e verdict is was =
    stops keys accounts w Moment (Signature ∷ Fields ∷ last_steps) refusal
    (subst (λ c. SaysOnTime c w.framed.moment (Some refusal)) (sym f.claim_is) (record { read = read; reads = reads; says = ap refusal_in (sym e) }))
    (reply_refused accounts w refusal (was ∙ ap (verified params action) is))
by_time keys accounts w m params action claim key f read reads (Ok done) e verdict is was =
    goes keys accounts w Moment (Signature ∷ Fields ∷ last_steps)
    (subst (λ c. SaysOnTime c w.framed.moment None) (sym f.claim_is) (record { read = read; reads = reads; says = ap refusal_in (sym e) }))
    (by_signature keys accounts w m params action claim key f (signed_by key (text_to_sign m.verb m.host params) claim.signature) refl (was ∙ ap (verified params action) is))

-- ---- the key

by_key : (keys : List Key) (accounts : DomainEntries) (w : Arrival) (m : Seen) (params : NamedValues) (action : Action) (claim : Claimed) → message_in w.framed ≡ Some m → params_in w.framed ≡ Some params
    → action_in w.framed ≡ Some action → claim_in w.framed ≡ Some claim → (known : Result (ℕ × List ℕ) Refusal) → known_key keys claim.key_id ≡ known
    → (verdict : Verdict) → Then known (λ key v. (read : Option ℕ) × ReadsAs claim.moment read × (v ≡ (in_time claim.kind w.framed.moment read >>= λ _. signed_by key (text_to_sign m.verb m.host params) claim.signature))) verdict
    → w.read ≡ verified params action verdict → Decided keys accounts w (KeyId ∷ Moment ∷ Signature ∷ Fields ∷ last_steps)
by_key keys accounts w m params action claim em ep ea ec (Err refusal) e verdict is was =
    stops keys accounts w KeyId (Moment ∷ Signature ∷ Fields ∷ last_steps) refusal
    (says-some (claim_in w.framed) claim (λ (c : Claimed). known_key keys c.key_id) refusal ec e)
    (reply_refused accounts w refusal (was ∙ ap (verified params action) is))
by_key keys accounts w m params action claim em ep ea ec (Ok key) e verdict (read, reads, is) was =
    goes keys accounts w KeyId (Moment ∷ Signature ∷ Fields ∷ last_steps)
    (says-none (claim_in w.framed) claim (λ (c : Claimed). known_key keys c.key_id) key ec e)
    (by_time keys accounts w m params action claim key
    (record { message = em; params_are = ep; action_is = ea; claim_is = ec; key_is = found-some (claim_in w.framed) claim (λ (c : Claimed). known_key keys c.key_id) key ec e })
    read reads (in_time claim.kind w.framed.moment read) refl verdict is was)

-- ---- the claim

by_claim : (keys : List Key) (accounts : DomainEntries) (w : Arrival) (m : Seen) (params : NamedValues) (action : Action) → message_in w.framed ≡ Some m → params_in w.framed ≡ Some params
    → action_in w.framed ≡ Some action → (claimed : Result Claimed Refusal) → claim_of params ≡ claimed
    → (verdict : Verdict) → Then claimed (λ claim. Then (known_key keys claim.key_id) (λ key v. (read : Option ℕ) × ReadsAs claim.moment read × (v ≡ (in_time claim.kind w.framed.moment read >>= λ _. signed_by key (text_to_sign m.verb m.host params) claim.signature)))) verdict
    → w.read ≡ verified params action verdict → Decided keys accounts w (Claim ∷ KeyId ∷ Moment ∷ Signature ∷ Fields ∷ last_steps)
by_claim keys accounts w m params action em ep ea (Err refusal) e verdict is was =
    stops keys accounts w Claim (KeyId ∷ Moment ∷ Signature ∷ Fields ∷ last_steps) refusal
    (says-some (params_in w.framed) params claim_of refusal ep e)
    (reply_refused accounts w refusal (was ∙ ap (verified params action) is))
by_claim keys accounts w m params action em ep ea (Ok claim) e verdict is was =
    goes keys accounts w Claim (KeyId ∷ Moment ∷ Signature ∷ Fields ∷ last_steps)
    (says-none (params_in w.framed) params claim_of claim ep e)
    (by_key keys accounts w m params action claim em ep ea (found-some (params_in w.framed) params claim_of claim ep e) (known_key keys claim.key_id) refl verdict is was)

-- ---- form, action and version

by_version : (keys : List Key) (accounts : DomainEntries) (w : Arrival) (m : Seen) (params : NamedValues) (action : Action) → message_in w.framed ≡ Some m → params_in w.framed ≡ Some params
    → action_in w.framed ≡ Some action → (version : Result (Unit {0}) Refusal) → version_in params ≡ version
    → IsReadAfter keys w.framed.moment m (version >>= λ _. Ok (params, action)) w.read → Decided keys accounts w (Version ∷ Claim ∷ KeyId ∷ Moment ∷ Signature ∷ Fields ∷ last_steps)
by_version keys accounts w m params action em ep ea (Err refusal) e is =
    stops keys accounts w Version (Claim ∷ KeyId ∷ Moment ∷ Signature ∷ Fields ∷ last_steps) refusal
    (says-some (params_in w.framed) params version_in refusal ep e) (reply_refused accounts w refusal is)
by_version keys accounts w m params action em ep ea (Ok done) e (verdict, is, was) =
    goes keys accounts w Version (Claim ∷ KeyId ∷ Moment ∷ Signature ∷ Fields ∷ last_steps)
    (says-none (params_in w.framed) params version_in done ep e)
    (by_claim keys accounts w m params action em ep ea (claim_of params) refl verdict is was)

by_action : (keys : List Key) (accounts : DomainEntries) (w : Arrival) (m : Seen) (params : NamedValues) → message_in w.framed ≡ Some m → params_in w.framed ≡ Some params
    → (named : Result Action Refusal) → action_of params ≡ named
    → IsReadAfter keys w.framed.moment m (named >>= λ action. version_in params >>= λ _. Ok (params, action)) w.read
    → Decided keys accounts w (ActionName ∷ Version ∷ Claim ∷ KeyId ∷ Moment ∷ Signature ∷ Fields ∷ last_steps)
by_action keys accounts w m params em ep (Err refusal) e is =
    stops keys accounts w ActionName (Version ∷ Claim ∷ KeyId ∷ Moment ∷ Signature ∷ Fields ∷ last_steps) refusal
    (says-some (params_in w.framed) params action_of refusal ep e) (reply_refused accounts w refusal is)
by_action keys accounts w m params em ep (Ok action) e is =
    goes keys accounts w ActionName (Version ∷ Claim ∷ KeyId ∷ Moment ∷ Signature ∷ Fields ∷ last_steps)
    (says-none (params_in w.framed) params action_of action ep e)
    (by_version keys accounts w m params action em ep (found-some (params_in w.framed) params action_of action ep e) (version_in params) refl is)

by_form : (keys : List Key) (accounts : DomainEntries) (w : Arrival) (m : Seen) → message_in w.framed ≡ Some m → (read : Result NamedValues Refusal) → form_params m.form ≡ read
    → IsReadAfter keys w.framed.moment m (read >>= λ params. action_of params >>= λ action. version_in params >>= λ _. Ok (params, action)) w.read
    → Decided keys accounts w (Form ∷ ActionName ∷ Version ∷ Claim ∷ KeyId ∷ Moment ∷ Signature ∷ Fields ∷ last_steps)
by_form keys accounts w m em (Err refusal) e is =
    stops keys accounts w Form (ActionName ∷ Version ∷ Claim ∷ KeyId ∷ Moment ∷ Signature ∷ Fields ∷ last_steps) refusal
    (says-some (message_in w.framed) m (λ (s : Seen). form_params s.form) refusal em e) (reply_refused accounts w refusal is)
by_form keys accounts w m em (Ok params) e is =
    goes keys accounts w Form (ActionName ∷ Version ∷ Claim ∷ KeyId ∷ Moment ∷ Signature ∷ Fields ∷ last_steps)
    (says-none (message_in w.framed) m (λ (s : Seen). form_params s.form) params em e)
    (by_action keys accounts w m params em (found-some (message_in w.framed) m (λ (s : Seen). form_params s.form) params em e) (action_of params) refl is)

-- ---- the message

by_message : (keys : List Key) (accounts : DomainEntries) (w : Arrival) (request : Reply) → w.framed.request ≡ request → IsReadOf keys w.framed.moment request w.read → Decided keys accounts w order
by_message keys accounts w (Err fault) e is =
    stops keys accounts w Message (Form ∷ ActionName ∷ Version ∷ Claim ∷ KeyId ∷ Moment ∷ Signature ∷ Fields ∷ last_steps) (framing_refusal fault)
    (ap framing_says (sym e)) (reply_refused accounts w (framing_refusal fault) is)
by_message keys accounts w (Ok m) e is =
    goes keys accounts w Message (Form ∷ ActionName ∷ Version ∷ Claim ∷ KeyId ∷ Moment ∷ Signature ∷ Fields ∷ last_steps)
    (ap framing_says (sym e)) (by_form keys accounts w m (ap result_ok e) (form_params m.form) refl is)

pub first_refusal_answers : (keys : List Key) (accounts : DomainEntries) (w : Arrival) → IsRead keys w.framed w.read → RefusedFirst keys accounts w
first_refusal_answers keys accounts w is =
    let d = by_message keys accounts w w.framed.request refl is in
    record {
      found = d.found;
      first = d.first;
      one = λ other also. one_first (Says keys accounts w.framed) (one_says keys accounts w.framed) order other d.found also d.first;
      answers = d.answers;
    }
