-- A request has one verdict.
use Rattle.std.proofs.Common.{◌≡◌, ◌≢◌, ◌↔◌, ℕ, List, Option, Some, None, Result, Ok, Err, inl, inr, refl, sym, ap, subst, ◌∙◌}
use Rattle.sdb_base.specs.declared.verb.Verb.{Verb}
use Rattle.sdb_base.specs.Pairs.{NamedValues}
use Rattle.sdb_keys.specs.declared.keys.Key.{Key}
use Rattle.sdb_tables.specs.declared.refusal.Refusal.{Refusal}
use Rattle.sdb_tables.specs.declared.refusal.Refusal.TheVariants.{OutOfMemory}
use Rattle.sdb_time.specs.Moments.{IsMoment, IsMomentText}
use Rattle.sdb_time.proofs.Grammar.{parts_complete}
use Rattle.sdb_sign.specs.Fresh.{ReadsAs, in_time}
use Rattle.sdb_sign.specs.Canon.{text_to_sign}
use Rattle.sdb_base.specs.Results.{◌>>=◌}
use Rattle.sdb_sign.specs.Signing.{IsVerdict, IsVerdictOrMemory, Then, Verdict, claim_of, known_key, signed_by}

one_moment : (text : List ℕ) (a b : ℕ) → IsMomentText text a → IsMomentText text b → a ≡ b
one_moment text a b x y =
    let both : Some x.parts ≡ Some y.parts = sym (parts_complete text x.parts x.spells) ∙ parts_complete text y.parts y.spells in
    let same : x.parts ≡ y.parts = cc in
    let moved = subst (λ p. IsMoment p a) same x.moment in
    let seconds = moved.seconds_are ∙ sym y.moment.seconds_are in
    cc

-- a moment reads as one thing
pub one_read : (text : List ℕ) (a b : Option ℕ) → ReadsAs text a → ReadsAs text b → a ≡ b
one_read text None None x y = refl
one_read text None (Some b) x y = absurd (x b y)
one_read text (Some a) None x y = absurd (y a x)
one_read text (Some a) (Some b) x y = ap (λ n. Some n) (one_moment text a b x y)

one_then : {A : Type 0} (step : Result A Refusal) (next : A → Verdict → Type 0) (a b : Verdict) → ((value : A) → next value a → next value b → a ≡ b) → Then step next a → Then step next b → a ≡ b
one_then (Err refusal) next a b one x y = x ∙ sym y
one_then (Ok value) next a b one x y = one value x y

pub one_verdict : (verb : Verb) (host : List ℕ) (params : NamedValues) (keys : List Key) (now : ℕ) (a b : Verdict) → IsVerdict verb host params keys now a → IsVerdict verb host params keys now b → a ≡ b
one_verdict verb host params keys now a b x y =
    one_then (claim_of params) _ a b (λ claim u v.
    one_then (known_key keys claim.key_id) _ a b (λ key p q.
    p.2
    ∙ ap (λ read. in_time claim.kind now read >>= λ _. signed_by key (text_to_sign verb host params) claim.signature) (one_read claim.moment p.0 q.0 p.1 q.1)
    ∙ sym q.2) u v) x y

given : (Is : Verdict → Type 0) (result : Verdict) → IsVerdictOrMemory Is result → result ≢ Err OutOfMemory → Is result
given Is (Ok account) h told = h
given Is (Err refusal) (inl lacking) told = absurd (told (ap (λ r. Err r) lacking))
given Is (Err refusal) (inr is) told = is

-- memory aside, the answer is the one verdict
pub exactly : (Is : Verdict → Type 0) → ((a b : Verdict) → Is a → Is b → a ≡ b) → (result : Verdict) → IsVerdictOrMemory Is result → (verdict : Verdict) → result ≢ Err OutOfMemory → (result ≡ verdict) ↔ Is verdict
exactly Is one result h verdict told =
    let is = given Is result h told in
    (λ same. subst Is same is, λ other. one result verdict is other)
