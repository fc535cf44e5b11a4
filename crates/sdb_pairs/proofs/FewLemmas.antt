-- The part of one name, looked for pair by pair.
use Rattle.std.proofs.Common.{◌≡◌, ℕ, zero, suc, ◌+◌, ◌<◌, ◌≤◌, Bool, true, false, not, ◌&&◌, ◌||◌, cond, List, [], ◌∷◌, ◌++◌, length, get_or, take, drop, filter, is_lt, refl, sym, ap, ap₂, ◌∙◌, subst, arith, true≢false, length-drop, length-take, get_or-drop, get_or-take, take-append-drop, append-nil}
use Rattle.std.specs.Cmp.{Equal-is}
use Rattle.std.specs.Cmp.Lexicographic.{texts_ties}
use Rattle.std.specs.List.{list_any}
use Rattle.std.specs.List.Sorted.{IsStrictlySortedBy}
use Rattle.std.proofs.lemmas.List.{get_or_default}
use Rattle.std.proofs.lemmas.List.Elements.{filter-append}
use Rattle.sdb_base.specs.Texts.{text_cmp}
use Rattle.sdb_base.proofs.Cases.{by_bool}
use Rattle.sdb_base.proofs.KeyLemmas.{each_from_places, filter_all, filter_none}
use Rattle.sdb_pairs.specs.declared.pair.Pair.{Pair}
use Rattle.sdb_pairs.specs.Pairs.{pair_cmp, is_named, part_named}
use Rattle.sdb_pairs.proofs.EditLemmas.{and_true}
use Rattle.sdb_pairs.proofs.PairLemmas.{is_below, parted_below, parted_named}

and_false : (a : Bool) → (a && false) ≡ false
and_false true = refl
and_false false = refl

pub not_true : (b : Bool) → not b ≡ true → b ≡ false
not_true true is = absurd (true≢false (sym is))
not_true false is = refl

-- a test of the first that passes another, or of the others
first_of_part : (p : Pair → Bool) (passes : Bool) (first : Pair) (part : List Pair) (others : Bool) → others ≡ list_any p part → ((p first && passes) || others) ≡ list_any p (cond passes (first ∷ part) part)
first_of_part p true first part others is = ap₂ (λ a b. a || b) (sym (and_true (p first))) is
first_of_part p false first part others is = ap (λ a. a || others) (and_false (p first)) ∙ is

-- both tests of the pairs, or one of those that pass the other
pub any_of_part : (p passes : Pair → Bool) (pairs : List Pair) → list_any (λ q. p q && passes q) pairs ≡ list_any p (filter passes pairs)
any_of_part p passes [] = refl
any_of_part p passes (first ∷ others) = first_of_part p (passes first) first (filter passes others) (list_any (λ q. p q && passes q) others) (any_of_part p passes others)

-- what stands behind a front rises
pub rising_behind : (place : ℕ) (pairs : List Pair) → IsStrictlySortedBy pair_cmp pairs → IsStrictlySortedBy pair_cmp (drop place pairs)
unfolding IsStrictlySortedBy
rising_behind zero pairs s = s
rising_behind (suc place) [] s = s
rising_behind (suc place) (pair ∷ pairs) s = rising_behind place pairs s.1

module _ (name : List ℕ) (pairs : List Pair) where
  -- the part of the front and of what is behind it
  split_part : (place : ℕ) → part_named name pairs ≡ part_named name (take place pairs) ++ part_named name (drop place pairs)
  split_part place = ap (filter (is_named name)) (sym (take-append-drop place pairs)) ∙ filter-append (is_named name) (take place pairs) (drop place pairs)

  -- no pair of the front has the name
  pub behind_others : (place : ℕ) → place ≤ length pairs → ((k : ℕ) (d : Pair) → k < place → is_named name (get_or pairs k d) ≡ false) → part_named name (drop place pairs) ≡ part_named name pairs
  behind_others place within others =
      let none : part_named name (take place pairs) ≡ [] =
      filter_none (is_named name) (take place pairs) (each_from_places _ (take place pairs) (λ i d lt.
      let high : i < place = omega (arith, lt, length-take place pairs) in
      subst (λ x. is_named name x ≡ false) (sym (get_or-take place pairs i d high)) (others i d high))) in
      sym (split_part place ∙ ap (λ l. l ++ part_named name (drop place pairs)) none)

  -- no pair at all has it
  pub none_named : (place : ℕ) → length pairs ≤ place → ((k : ℕ) (d : Pair) → k < place → is_named name (get_or pairs k d) ≡ false) → [] ≡ part_named name pairs
  none_named place past others = sym (filter_none (is_named name) pairs (each_from_places _ pairs (λ i d lt. others i d (omega (arith, lt, past)))))

  -- all pairs have it
  pub all_named : (place : ℕ) → length pairs ≤ place → ((k : ℕ) (d : Pair) → k < place → is_named name (get_or pairs k d) ≡ true) → pairs ≡ part_named name pairs
  all_named place past named = sym (filter_all (is_named name) pairs (each_from_places _ pairs (λ i d lt. named i d (omega (arith, lt, past)))))

  module _ (rising : IsStrictlySortedBy pair_cmp pairs) (first : (d : Pair) → is_named name (get_or pairs 0 d) ≡ true) where
    named_isnt_below : (p : Pair) → is_named name p ≡ true → is_below name p ≡ false
    named_isnt_below p named = ap is_lt ((Equal-is (text_cmp p.name name)).0 (sym (texts_ties p.name name) ∙ named))

    none_below : (i : ℕ) (d : Pair) → i < length pairs → is_below name (get_or pairs i d) ≡ false
    none_below i d high =
        by_bool (is_below name (get_or pairs i d))
        (λ t. absurd (true≢false (sym (parted_below name pairs rising 0 i d (omega arith) high t) ∙ named_isnt_below (get_or pairs 0 d) (first d))))
        (λ f. f)

    -- behind a pair of another name none has it
    later_not : (place i : ℕ) (d : Pair) → place ≤ i → i < length pairs → is_named name (get_or pairs place d) ≡ false → is_named name (get_or pairs i d) ≡ false
    later_not place i d le high other =
        by_bool (is_named name (get_or pairs i d))
        (λ t.
        absurd
        (true≢false
        (sym (parted_named name pairs rising 0 (omega arith) ((λ k e low up. absurd (omega (arith, low, up))), λ k e low up. none_below k e up) pairs refl place i d le high t) ∙ other)))
        (λ f. f)

    -- the front up to a pair of another name is the part
    pub front_is_part : (place : ℕ) (other : Pair) → place < length pairs → ((k : ℕ) (d : Pair) → k < place → is_named name (get_or pairs k d) ≡ true) → is_named name (get_or pairs place other) ≡ false
        → take place pairs ≡ part_named name pairs
    front_is_part place other inside named differs =
        let all : part_named name (take place pairs) ≡ take place pairs =
        filter_all (is_named name) (take place pairs) (each_from_places _ (take place pairs) (λ i d lt.
        let high : i < place = omega (arith, lt, length-take place pairs) in
        subst (λ x. is_named name x ≡ true) (sym (get_or-take place pairs i d high)) (named i d high))) in
        let none : part_named name (drop place pairs) ≡ [] =
        filter_none (is_named name) (drop place pairs) (each_from_places _ (drop place pairs) (λ i d lt.
        let high : place + i < length pairs = omega (arith, lt, length-drop place pairs, inside) in
        subst (λ x. is_named name x ≡ false) (sym (get_or-drop place pairs i d)) (later_not place (place + i) d (omega arith) high (same_place d)))) in
        sym (split_part place ∙ ap (λ l. part_named name (take place pairs) ++ l) none ∙ append-nil (part_named name (take place pairs)) ∙ all)
      where
        same_place : (d : Pair) → is_named name (get_or pairs place d) ≡ false
        same_place d = subst (λ x. is_named name x ≡ false) (get_or_default pairs place other d inside) differs
