-- Names that stand twice.
use Rattle.std.proofs.Common.{◌≡◌, ℕ, ◌+◌, ◌<◌, Bool, true, false, cond, not, ◌||◌, List, [], ◌∷◌, ◌++◌, length, get_or, take, refl, sym, ap, ◌∙◌, arith, length-take}
use Rattle.std.specs.List.{IsDistinct, list_any}
use Rattle.std.specs.Map.{keys_of}
use Rattle.std.specs.Ordering.{is_eq, nat_cmp}
use Rattle.std.specs.Cmp.Lexicographic.{slice_cmp}
use Rattle.std.specs.Str.{bytes_eq}
use Rattle.std.proofs.lemmas.Bool.{both_ways}
use Rattle.std.proofs.lemmas.Cmp.{nat_list_eq_equiv}
use Rattle.std.proofs.lemmas.List.{take_more, get_or-take, take-take, get_or-map}
use Rattle.std.proofs.lemmas.List.Folds.{list_any-append}
use Rattle.std.proofs.lemmas.Map.Keys.{IsDistinct-push, apart_from_distinct}
use Rattle.std.proofs.lemmas.Map.Text.{is_eq-slice_cmp}
use Rattle.std.proofs.lemmas.Map.Views.{Contains-from_any}
use Rattle.std.proofs.lemmas.Slice.Eq.{bytes_eq-Decides}
use Rattle.std.proofs.lemmas.Grind.{common_steps}
use Rattle.sdb_form.specs.Form.{IsFirst, IsRepeat}

pub no_repeat : (names : List (List ℕ)) (k : ℕ) → IsDistinct bytes_eq names → ¬ (IsRepeat names k)
no_repeat names k distinct (inside, (j, early, at)) =
    let name = get_or names k [] in
    let below : j < k = omega (arith, length-take k names) in
    let apart = apart_from_distinct bytes_eq names j k name distinct below inside in
    let first : get_or names j name ≡ name = sym (get_or-take k names j name below) ∙ at in
    let second : get_or names k name ≡ name = grind (arith, common_steps) in
    let same : bytes_eq name name ≡ false = rw (first, second) at apart in
    both_ways _ same (nat_list_eq_equiv.refl name)

-- what repeats before a place repeats in the names before that place
repeat_taken : (names : List (List ℕ)) (k j : ℕ) → j < k → IsRepeat names j → IsRepeat (take k names) j
repeat_taken names k j below repeat =
    let same = get_or-take k names j [] below in
    let taken = take-take j k names (omega arith) in
    (omega (arith, repeat.0, length-take k names), rw (same, taken) repeat.1)

pub first_repeat : (names : List (List ℕ)) (k : ℕ) → k < length names → IsDistinct bytes_eq (take k names) → list_any (bytes_eq (get_or names k [])) (take k names) ≡ true → IsFirst (IsRepeat names) k
first_repeat names k inside distinct found =
    record {
      holds = (inside, Contains-from_any (λ x y. (bytes_eq-Decides x y).0) (get_or names k []) (take k names) found);
      least = λ j below repeat. no_repeat (take k names) j distinct (repeat_taken names k j below repeat);
    }

pub distinct_more : (names : List (List ℕ)) (k : ℕ) → k < length names → IsDistinct bytes_eq (take k names) → list_any (bytes_eq (get_or names k [])) (take k names) ≡ false → IsDistinct bytes_eq (take (k + 1) names)
distinct_more names k inside distinct none =
    rw (take_more names k [] inside) (IsDistinct-push nat_list_eq_equiv (take k names) (get_or names k []) distinct none)

either : (a b : Bool) → cond a true b ≡ (b || (a || false))
either true true = refl
either true false = refl
either false true = refl
either false false = refl

-- a set with one more name finds it among the names so far and this one
pub found_more : (q name : List ℕ) (names : List (List ℕ)) → cond (is_eq (slice_cmp nat_cmp name q)) true (list_any (bytes_eq q) names) ≡ list_any (bytes_eq q) (names ++ name ∷ [])
found_more q name names =
    rw (list_any-append (bytes_eq q) names (name ∷ []), is_eq-slice_cmp name q, nat_list_eq_equiv.symm name q) (either (bytes_eq q name) (list_any (bytes_eq q) names))

pub name_at : (pairs : List (List ℕ × List ℕ)) (i : ℕ) (pair : List ℕ × List ℕ) → i < length pairs → pair ≡ get_or pairs i pair → pair.0 ≡ get_or (keys_of pairs) i []
name_at pairs i pair inside at =
    ap (λ p. p.0) at ∙ sym (get_or-map (λ p. p.0) pairs i pair [] inside)

pub not_false : (b : Bool) → not b ≡ false → b ≡ true
not_false true e = refl
not_false false e = sym e

pub not_true : (b : Bool) → not b ≡ true → b ≡ false
not_true true e = sym e
not_true false e = refl

pub none_apart : IsDistinct bytes_eq []
unfolding IsDistinct
none_apart = tt
