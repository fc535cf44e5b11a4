-- A form's parameters or its fault, computed: it is the one answer that the form has.
use Rattle.std.proofs.Common.{◌≡◌, ◌≢◌, ℕ, zero, suc, ◌<◌, ◌≤◌, Bool, true, false, cond, List, [], length, take, Some, None, Result, Ok, Err, All, ⊎_elim, refl, sym, ap, ◌∙◌, subst, arith, add-one}
use Rattle.std.specs.List.{IsDistinct}
use Rattle.std.specs.Map.{keys_of}
use Rattle.std.specs.Option.{option_or, option_map_or, unwrap_or}
use Rattle.std.specs.Str.{bytes_eq}
use Rattle.std.proofs.lemmas.Bool.{and_parts, and_from, not-true, not-false, both_ways, cases_eq}
use Rattle.std.proofs.lemmas.List.{take_all}
use Rattle.std.proofs.lemmas.List.Elements.{All-from_get_or}
use Rattle.std.proofs.lemmas.Map.Entries.{length-keys_of}
use Rattle.std.proofs.lemmas.Str.{is_utf8-from_IsUtf8, IsUtf8-from_is_utf8}
use Rattle.form_urlencoded.specs.Form.{parse}
use Rattle.sdb_base.specs.Pairs.{NamedValues, HasDistinctNames}
use Rattle.sdb_form.specs.declared.fault.FormFault.{FormFault}
use Rattle.sdb_form.specs.declared.fault.FormFault.TheVariants as variant
use Rattle.sdb_form.specs.Answer.{IsAnswer, first_place, is_text_pair, is_spoiled, is_repeat, if_distinct, if_params, params_of}
use Rattle.sdb_form.specs.Form.{IsFirst, IsSpoiled, IsRepeat, IsTextPair}
use Rattle.sdb_form.proofs.Answers.{are_params, is_repeated, is_not_utf8, one_answer}
use Rattle.sdb_form.proofs.Repeats.{first_repeat, distinct_more, none_apart}

-- where no place passes, the test fails at each
none_passes : (test : ℕ → Bool) (n : ℕ) → first_place test n ≡ None → (k : ℕ) → k < n → test k ≡ false
none_passes test zero none k below = absurd (omega arith)
none_passes test (suc n) none k below =
    elim (first_place test n) as (λ o. first_place test n ≡ o → option_or o (cond (test n) (Some n) None) ≡ None → test k ≡ false) [
      | Some j ↦ λ was is. cc
      | None ↦ λ was is. elim (test n) as (λ b. test n ≡ b → cond b (Some n) None ≡ None → test k ≡ false) [
        | true ↦ λ passes is. cc
        | false ↦ λ fails is. ⊎_elim
            (λ same. ap test same ∙ fails)
            (λ other. none_passes test n was k (omega arith))
            (cases_eq k n)
      ] refl is
    ] refl none

-- the first place that passes is one, passes, and no earlier place does
record Passes (test : ℕ → Bool) (n k : ℕ) : Type 0 where
  pub inside : k < n
  pub passes : test k ≡ true
  pub least : (earlier : ℕ) → earlier < k → test earlier ≡ false

first_passes : (test : ℕ → Bool) (n k : ℕ) → first_place test n ≡ Some k → Passes test n k
first_passes test zero k is = absurd (cc)
first_passes test (suc n) k is =
    elim (first_place test n) as (λ o. first_place test n ≡ o → option_or o (cond (test n) (Some n) None) ≡ Some k → Passes test (suc n) k) [
      | Some j ↦ λ was same.
          let first = first_passes test n k (was ∙ same) in
          record { inside = omega (arith, first.inside); passes = first.passes; least = first.least }
      | None ↦ λ was same. elim (test n) as (λ b. test n ≡ b → cond b (Some n) None ≡ Some k → Passes test (suc n) k) [
        | true ↦ λ passes same.
            let at : n ≡ k = ap (λ o. unwrap_or o 0) same in
            record {
              inside = omega arith;
              passes = ap test (sym at) ∙ passes;
              least = λ earlier below. none_passes test n was earlier (omega arith);
            }
        | false ↦ λ fails same. absurd (cc)
      ] refl same
    ] refl is

text_from : (pair : List ℕ × List ℕ) → is_text_pair pair ≡ true → IsTextPair pair
text_from pair pass =
    let both = and_parts _ _ pass in
    (IsUtf8-from_is_utf8 pair.0 both.0, IsUtf8-from_is_utf8 pair.1 both.1)

text_passes : (pair : List ℕ × List ℕ) → IsTextPair pair → is_text_pair pair ≡ true
text_passes pair text = and_from _ _ (is_utf8-from_IsUtf8 pair.0 text.0) (is_utf8-from_IsUtf8 pair.1 text.1)

first_spoiled : (pairs : NamedValues) (k : ℕ) → first_place (is_spoiled pairs) (length pairs) ≡ Some k → IsFirst (IsSpoiled pairs) k
first_spoiled pairs k is =
    let first = first_passes (is_spoiled pairs) (length pairs) k is in
    record {
      holds = (first.inside, λ text. both_ways _ (not-true _ first.passes) (text_passes _ text));
      least = λ earlier below spoiled. spoiled.1 (text_from _ (not-false _ (first.least earlier below)));
    }

all_texts : (pairs : NamedValues) → first_place (is_spoiled pairs) (length pairs) ≡ None → All IsTextPair pairs
all_texts pairs none =
    All-from_get_or IsTextPair pairs ([], []) (λ k inside. text_from _ (not-false _ (none_passes (is_spoiled pairs) (length pairs) none k inside)))

distinct_taken : (names : List (List ℕ)) (n : ℕ) → n ≤ length names → ((k : ℕ) → k < n → is_repeat names k ≡ false) → IsDistinct bytes_eq (take n names)
distinct_taken names zero fits none = none_apart
distinct_taken names (suc n) fits none =
    rw (sym (add-one n)) (distinct_more names n (omega arith) (distinct_taken names n (omega arith) (λ k below. none k (omega arith))) (none n (omega arith)))

all_distinct : (pairs : NamedValues) → first_place (is_repeat (keys_of pairs)) (length pairs) ≡ None → HasDistinctNames pairs
all_distinct pairs none =
    let names = keys_of pairs in
    let counted : length names ≡ length pairs = length-keys_of pairs in
    let each = none_passes (is_repeat names) (length pairs) none in
    subst (IsDistinct bytes_eq) (take_all (length pairs) names (omega (arith, counted))) (distinct_taken names (length pairs) (omega (arith, counted)) each)

first_repeated : (pairs : NamedValues) (k : ℕ) → first_place (is_repeat (keys_of pairs)) (length pairs) ≡ Some k → IsFirst (IsRepeat (keys_of pairs)) k
first_repeated pairs k is =
    let names = keys_of pairs in
    let first = first_passes (is_repeat names) (length pairs) k is in
    let inside : k < length names = omega (arith, first.inside, length-keys_of pairs) in
    first_repeat names k inside (distinct_taken names k (omega arith) first.least) first.passes

answer_distinct : (form : List ℕ) → All IsTextPair (parse form) → IsAnswer form (if_distinct (parse form))
answer_distinct form texts =
    let test = is_repeat (keys_of (parse form)) in
    elim (first_place test (length (parse form)))
    as (λ o. first_place test (length (parse form)) ≡ o → IsAnswer form (option_map_or (λ place. Err (variant.Repeated place)) o (Ok (parse form)))) [
      | Some k ↦ λ is. is_repeated form (parse form) k refl texts (first_repeated (parse form) k is)
      | None ↦ λ is. are_params form (parse form) refl texts (all_distinct (parse form) is)
    ] refl

pub has_answer : (form : List ℕ) → IsAnswer form (params_of form)
unfolding params_of
has_answer form =
    let test = is_spoiled (parse form) in
    elim (first_place test (length (parse form)))
    as (λ o. first_place test (length (parse form)) ≡ o → IsAnswer form (option_map_or (λ place. Err (variant.NotUtf8 place)) o (if_distinct (parse form)))) [
      | Some k ↦ λ is. is_not_utf8 form k (first_spoiled (parse form) k is)
      | None ↦ λ is. answer_distinct form (all_texts (parse form) is)
    ] refl

abbrev Answer : Type 0
Answer = Result NamedValues FormFault

pairs_not_memory : (pairs : NamedValues) → if_params pairs ≢ Err variant.OutOfMemory
pairs_not_memory pairs =
    elim (first_place (is_spoiled pairs) (length pairs))
    as (λ o. let answer : Answer = option_map_or (λ place. Err (variant.NotUtf8 place)) o (if_distinct pairs) in answer ≢ Err variant.OutOfMemory) [
      | Some k ↦ λ is. cc
      | None ↦ elim (first_place (is_repeat (keys_of pairs)) (length pairs))
          as (λ o. let answer : Answer = option_map_or (λ place. Err (variant.Repeated place)) o (Ok pairs) in answer ≢ Err variant.OutOfMemory) [
            | Some k ↦ λ is. cc
            | None ↦ λ is. cc
          ]
    ]

pub not_memory : (form : List ℕ) → params_of form ≢ Err variant.OutOfMemory
unfolding params_of
not_memory form = pairs_not_memory (parse form)

pub only_answer : (form : List ℕ) (answer : Answer) → answer ≢ Err variant.OutOfMemory → IsAnswer form answer → answer ≡ params_of form
only_answer form answer told is = one_answer form answer (params_of form) is (has_answer form) told (not_memory form)
