-- The first of steps that refuses.
use Rattle.std.proofs.Common.{◌≡◌, ℕ, List, [], ◌∷◌, Option, None, Some, Result, Ok, Err, inl, inr, refl, sym, ap, ◌∙◌}
use Rattle.std.specs.List.{AllByRecursion}
use Rattle.std.specs.Result.{result_ok}
use Rattle.std.specs.Prelude.{option_and_then}
use Rattle.sdb_arrivals.specs.Story.{Framed}
use Rattle.sdb_keys.specs.declared.keys.Key.{Key}
use Rattle.sdb_pairs.specs.Accounts.{DomainEntries}
use Rattle.sdb_sign.proofs.Verdicts.{one_read}
use Rattle.sdb_sign.specs.Fresh.{in_time}
use Rattle.sdb_sign.specs.Signing.{Claimed}
use Rattle.sdb_tables.specs.declared.refusal.Refusal.{Refusal}
use Rattle.sdb_write.specs.Limits.{first_of}
use Rattle.sdb_respond.specs.Judging.{SaysInTime, SaysOnTime, claim_in, on, refusal_in}
use Rattle.sdb_respond.specs.Order.{IsFirst, Judges, Message, Form, ActionName, Version, Claim, KeyId, Moment, Signature, Fields, SelectText, Token, Domain, Expectation, Limits, Says}

-- ---- one answer of each step, and one first refusal

one_in_time : (claim : Claimed) (now : ℕ) (a b : Option Refusal) → SaysInTime claim now a → SaysInTime claim now b → a ≡ b
one_in_time claim now a b x y =
    x.says ∙ ap (λ r. refusal_in (in_time claim.kind now r)) (one_read claim.moment x.read y.read x.reads y.reads) ∙ sym y.says

one_on_time : (claim : Option Claimed) (now : ℕ) (a b : Option Refusal) → SaysOnTime claim now a → SaysOnTime claim now b → a ≡ b
one_on_time None now a b x y = x ∙ sym y
one_on_time (Some claim) now a b x y = one_in_time claim now a b x y

pub one_says : (keys : List Key) (accounts : DomainEntries) (w : Framed) (step : Judges) (a b : Option Refusal) → Says keys accounts w step a → Says keys accounts w step b → a ≡ b
one_says keys accounts w Message a b x y = x ∙ sym y
one_says keys accounts w Form a b x y = x ∙ sym y
one_says keys accounts w ActionName a b x y = x ∙ sym y
one_says keys accounts w Version a b x y = x ∙ sym y
one_says keys accounts w Claim a b x y = x ∙ sym y
one_says keys accounts w KeyId a b x y = x ∙ sym y
one_says keys accounts w Moment a b x y = one_on_time (claim_in w) w.moment a b x y
one_says keys accounts w Signature a b x y = x ∙ sym y
one_says keys accounts w Fields a b x y = x ∙ sym y
one_says keys accounts w SelectText a b x y = x ∙ sym y
one_says keys accounts w Token a b x y = x ∙ sym y
one_says keys accounts w Domain a b x y = x ∙ sym y
one_says keys accounts w Expectation a b x y = x ∙ sym y
one_says keys accounts w Limits a b x y = x ∙ sym y

pub one_first : (says : Judges → Option Refusal → Type 0) → ((step : Judges) (a b : Option Refusal) → says step a → says step b → a ≡ b)
    → (steps : List Judges) (a b : Option Refusal) → IsFirst says steps a → IsFirst says steps b → a ≡ b
one_first says one [] a b x y = x ∙ sym y
one_first says one (step ∷ steps) a b (inl x) (inl y) =
    x.2 ∙ one step (Some x.0) (Some y.0) x.1 y.1 ∙ sym y.2
one_first says one (step ∷ steps) a b (inl x) (inr y) = let no : Some x.0 ≡ None = one step (Some x.0) None x.1 y.0 in absurd cc
one_first says one (step ∷ steps) a b (inr x) (inl y) = let no : Some y.0 ≡ None = one step (Some y.0) None y.1 x.0 in absurd cc
one_first says one (step ∷ steps) a b (inr x) (inr y) = one_first says one steps a b x.1 y.1

-- ---- steps that are computed

-- the first refusal where each step's answer is chosen
abbrev pub first_among : (Judges → Option Refusal) → List Judges → Option Refusal
first_among chosen [] = None
first_among chosen (step ∷ steps) = first_of (chosen step) (first_among chosen steps)

chosen_step : (says : Judges → Option Refusal → Type 0) (step : Judges) (steps : List Judges) (said found : Option Refusal) → says step said → IsFirst says steps found
    → IsFirst says (step ∷ steps) (first_of said found)
chosen_step says step steps None found x first = inr (x, first)
chosen_step says step steps (Some refusal) found x first = inl (refusal, x, refl)

pub chosen-first : (says : Judges → Option Refusal → Type 0) (chosen : Judges → Option Refusal) (steps : List Judges) → AllByRecursion (λ step. says step (chosen step)) steps
    → IsFirst says steps (first_among chosen steps)
chosen-first says chosen [] all = refl
chosen-first says chosen (step ∷ steps) all = chosen_step says step steps (chosen step) (first_among chosen steps) all.0 (chosen-first says chosen steps all.1)

-- ---- what a step says of what was found

pub found-some : {A B : Type 0} (o : Option A) (x : A) (judge : A → Result B Refusal) (value : B) → o ≡ Some x → judge x ≡ Ok value → option_and_then (λ y. result_ok (judge y)) o ≡ Some value
found-some o x judge value is ok = rw (is, ok) refl

pub says-none : {A B : Type 0} (o : Option A) (x : A) (judge : A → Result B Refusal) (value : B) → o ≡ Some x → judge x ≡ Ok value → None ≡ on o (λ y. refusal_in (judge y))
says-none o x judge value is ok = rw (is, ok) refl

pub says-some : {A B : Type 0} (o : Option A) (x : A) (judge : A → Result B Refusal) (refusal : Refusal) → o ≡ Some x → judge x ≡ Err refusal → Some refusal ≡ on o (λ y. refusal_in (judge y))
says-some o x judge refusal is err = rw (is, err) refl

pub on-some : {A : Type 0} (o : Option A) (x : A) (judge : A → Option Refusal) → o ≡ Some x → on o judge ≡ judge x
on-some o x judge is = rw is refl
