-- What the part of an item that an edit touches adds, in place of the whole item: counts of names, and sums.
use Rattle.std.proofs.Common.{◌≡◌, ℕ, ◌+◌, ◌-◌, ◌≤◌, Bool, true, false, not, ◌||◌, List, [], ◌∷◌, refl, sym, ap, ◌∙◌, length, filter, subst, arith, true≢false, if◌then◌else◌}
use Rattle.std.specs.Bool.{◌==◌}
use Rattle.std.specs.List.{sum_by, list_any}
use Rattle.std.proofs.Math.Bool.{or-true}
use Rattle.std.proofs.lemmas.Bool.Decides.{Decides-eqb}
use Rattle.std.proofs.lemmas.List.Filters.{length-filter_both, sum_by-filter_both}
use Rattle.sdb_base.proofs.Cases.{by_bool}
use Rattle.sdb_pairs.specs.declared.pair.Pair.{Pair}
use Rattle.sdb_pairs.specs.Pairs.{is_named}
use Rattle.sdb_pairs.proofs.PartLemmas.{inside, outside, same_text}
use Rattle.sdb_domain.specs.declared.sums.Sums.{Sums}
use Rattle.sdb_domain.specs.Names.{presence}
use Rattle.sdb_domain.specs.Sums.{row_sums, has_pairs, has_left, part_sums, exchanged, sums_after}
use Rattle.sdb_domain.specs.Weights.{pair_weight, value_bytes_of}

module _ (t : List ℕ → Bool) (name : List ℕ) where
  -- a pair whose name is on the other side isn't named
  apart : (p : Pair) (b : Bool) → t name ≡ b → t p.name ≡ not b → is_named name p ≡ false
  apart p true e f = by_bool (is_named name p) (λ n. absurd (true≢false (sym e ∙ ap t (sym (same_text p.name name n)) ∙ f))) (λ n. n)
  apart p false e f = by_bool (is_named name p) (λ n. absurd (true≢false (sym f ∙ ap t (same_text p.name name n) ∙ e))) (λ n. n)

  any_inside : (pairs : List Pair) → t name ≡ true → list_any (is_named name) (filter (inside t) pairs) ≡ list_any (is_named name) pairs
  any_inside [] e = refl
  any_inside (p ∷ ps) e =
      by_bool (t p.name)
      (λ f. rw f (ap (λ b. is_named name p || b) (any_inside ps e)))
      (λ f. rw (f, apart p true e f) (any_inside ps e))

  any_outside : (pairs : List Pair) → t name ≡ false → list_any (is_named name) (filter (outside t) pairs) ≡ list_any (is_named name) pairs
  any_outside [] e = refl
  any_outside (p ∷ ps) e =
      by_bool (t p.name)
      (λ f. rw (f, apart p false e f) (any_outside ps e))
      (λ f. rw f (ap (λ b. is_named name p || b) (any_outside ps e)))

  none_inside : (pairs : List Pair) → t name ≡ false → list_any (is_named name) (filter (inside t) pairs) ≡ false
  none_inside [] e = refl
  none_inside (p ∷ ps) e =
      by_bool (t p.name)
      (λ f. rw (f, apart p false e f) (none_inside ps e))
      (λ f. rw f (none_inside ps e))

  -- the part has the name no more often than the item
  pub part_within : (pairs : List Pair) → presence name (filter (inside t) pairs) ≤ presence name pairs
  part_within pairs =
      by_bool (t name)
      (λ e. let same : presence name (filter (inside t) pairs) ≡ presence name pairs = ap (λ b. if b then 1 else 0) (any_inside pairs e) in omega arith)
      (λ e. let none : presence name (filter (inside t) pairs) ≡ 0 = ap (λ b. if b then 1 else 0) (none_inside pairs e) in omega arith)

  -- what the parts count is what the items count, where the others are the same
  pub part_counts : (old new : List Pair) (was now : ℕ) → filter (outside t) old ≡ filter (outside t) new
      → now + presence name (filter (inside t) old) ≡ was + presence name (filter (inside t) new) → now + presence name old ≡ was + presence name new
  part_counts old new was now rest h =
      by_bool (t name)
      (λ e.
      let o : presence name (filter (inside t) old) ≡ presence name old = ap (λ b. if b then 1 else 0) (any_inside old e) in
      let n : presence name (filter (inside t) new) ≡ presence name new = ap (λ b. if b then 1 else 0) (any_inside new e) in
      omega arith)
      (λ e.
      let o : presence name (filter (inside t) old) ≡ 0 = ap (λ b. if b then 1 else 0) (none_inside old e) in
      let n : presence name (filter (inside t) new) ≡ 0 = ap (λ b. if b then 1 else 0) (none_inside new e) in
      let same : presence name old ≡ presence name new =
      ap (λ b. if b then 1 else 0) (sym (any_outside old e) ∙ ap (list_any (is_named name)) rest ∙ any_outside new e) in
      omega arith)

-- ---- sums

-- a row's sums are those of its pairs, and of the row itself where it has some
row_is_part : (name : List ℕ) (pairs : List Pair) → row_sums (name, pairs) ≡ part_sums name (has_pairs pairs) pairs
row_is_part name [] = refl
row_is_part name (p ∷ ps) = refl

-- whether pairs are left, by the numbers of pairs
left_by : (pairs put : List Pair) (others whole part : ℕ) → length put + others ≡ length pairs → part + others ≡ whole → (not (whole == part) || has_pairs put) ≡ has_pairs pairs
left_by [] [] others whole part h e = let same : whole ≡ part = omega arith in ap (λ b. not b || false) ((Decides-eqb whole part).1 same)
left_by (p ∷ ps) [] others whole part h e =
    by_bool (whole == part)
    (λ same. let is : whole ≡ part = (Decides-eqb whole part).0 same in absurd (omega arith))
    (λ differ. ap (λ b. not b || false) differ)
left_by [] (q ∷ qs) others whole part h e = absurd (omega arith)
left_by (p ∷ ps) (q ∷ qs) others whole part h e = or-true (not (whole == part))

module _ (t : List ℕ → Bool) (old new : List Pair) (rest : filter (outside t) old ≡ filter (outside t) new) where
  lengths_old : length (filter (inside t) old) + length (filter (outside t) old) ≡ length old
  lengths_old = length-filter_both (inside t) (outside t) (λ q. refl) old

  lengths_new : length (filter (inside t) new) + length (filter (outside t) old) ≡ length new
  lengths_new = ap (λ l. length (filter (inside t) new) + length l) rest ∙ length-filter_both (inside t) (outside t) (λ q. refl) new

  -- whether pairs are left, told by the parts
  pub left_same : has_left old (filter (inside t) old) (filter (inside t) new) ≡ has_pairs new
  left_same = left_by new (filter (inside t) new) (length (filter (outside t) old)) (length old) (length (filter (inside t) old)) lengths_new lengths_old

  module _ (sums : Sums) (name : List ℕ) where
    sum_old : (f : Pair → ℕ) → sum_by f (filter (inside t) old) + sum_by f (filter (outside t) old) ≡ sum_by f old
    sum_old f = sum_by-filter_both (inside t) (outside t) (λ q. refl) f old

    sum_new : (f : Pair → ℕ) → sum_by f (filter (inside t) new) + sum_by f (filter (outside t) old) ≡ sum_by f new
    sum_new f = ap (λ l. sum_by f (filter (inside t) new) + sum_by f l) rest ∙ sum_by-filter_both (inside t) (outside t) (λ q. refl) f new

    weights : (x y : ℕ) → x + sum_by pair_weight old ≤ sums.weight
        → sums.weight - (x + sum_by pair_weight (filter (inside t) old)) + (y + sum_by pair_weight (filter (inside t) new)) ≡ sums.weight - (x + sum_by pair_weight old) + (y + sum_by pair_weight new)
    weights x y h =
        let o = sum_old pair_weight in
        let n = sum_new pair_weight in
        omega (arith, o, n)

    weights_gone : (x y : ℕ) → x + sum_by pair_weight old ≤ sums.weight
        → sums.weight - (x + sum_by pair_weight (filter (inside t) old)) + (sum_by pair_weight (filter (inside t) new)) ≡ sums.weight - (x + sum_by pair_weight old) + (sum_by pair_weight new)
    weights_gone x y h =
        let o = sum_old pair_weight in
        let n = sum_new pair_weight in
        omega (arith, o, n)

    weights_made : (x y : ℕ) → sum_by pair_weight old ≤ sums.weight
        → sums.weight - (sum_by pair_weight (filter (inside t) old)) + (y + sum_by pair_weight (filter (inside t) new)) ≡ sums.weight - (sum_by pair_weight old) + (y + sum_by pair_weight new)
    weights_made x y h =
        let o = sum_old pair_weight in
        let n = sum_new pair_weight in
        omega (arith, o, n)

    weights_none : (x y : ℕ) → sum_by pair_weight old ≤ sums.weight
        → sums.weight - (sum_by pair_weight (filter (inside t) old)) + (sum_by pair_weight (filter (inside t) new)) ≡ sums.weight - (sum_by pair_weight old) + (sum_by pair_weight new)
    weights_none x y h =
        let o = sum_old pair_weight in
        let n = sum_new pair_weight in
        omega (arith, o, n)

    module _ (pairs_in : length old ≤ sums.pairs) (values_in : value_bytes_of old ≤ sums.value_bytes) where
      pairs_same : sums.pairs - length (filter (inside t) old) + length (filter (inside t) new) ≡ sums.pairs - length old + length new
      pairs_same = omega (arith, lengths_old, lengths_new)

      values_same : sums.value_bytes - value_bytes_of (filter (inside t) old) + value_bytes_of (filter (inside t) new) ≡ sums.value_bytes - value_bytes_of old + value_bytes_of new
      values_same =
          let o = sum_old (λ p. length p.value) in
          let n = sum_new (λ p. length p.value) in
          omega (arith, o, n)

      exchange_same : (b d : Bool) → (part_sums name b old).weight ≤ sums.weight
          → exchanged sums (part_sums name b (filter (inside t) old)) (part_sums name d (filter (inside t) new)) ≡ exchanged sums (part_sums name b old) (part_sums name d new)
      exchange_same true true h = λ i. record { items = sums.items - 1 + 1; item_bytes = sums.item_bytes - length name + length name; pairs = pairs_same i; value_bytes = values_same i; weight = weights (length name + 64) (length name + 64) h i }
      exchange_same true false h = λ i. record { items = sums.items - 1 + 0; item_bytes = sums.item_bytes - length name + 0; pairs = pairs_same i; value_bytes = values_same i; weight = weights_gone (length name + 64) 0 h i }
      exchange_same false true h = λ i. record { items = sums.items - 0 + 1; item_bytes = sums.item_bytes - 0 + length name; pairs = pairs_same i; value_bytes = values_same i; weight = weights_made 0 (length name + 64) h i }
      exchange_same false false h = λ i. record { items = sums.items - 0 + 0; item_bytes = sums.item_bytes - 0 + 0; pairs = pairs_same i; value_bytes = values_same i; weight = weights_none 0 0 h i }

    row_pairs : (pairs : List Pair) → (row_sums (name, pairs)).pairs ≡ length pairs
    row_pairs [] = refl
    row_pairs (p ∷ ps) = refl

    row_values : (pairs : List Pair) → (row_sums (name, pairs)).value_bytes ≡ value_bytes_of pairs
    row_values [] = refl
    row_values (p ∷ ps) = refl

    pub sums_same : (row_sums (name, old)).pairs ≤ sums.pairs → (row_sums (name, old)).value_bytes ≤ sums.value_bytes → (row_sums (name, old)).weight ≤ sums.weight
        → sums_after sums name old (filter (inside t) old) (filter (inside t) new) ≡ exchanged sums (row_sums (name, old)) (row_sums (name, new))
    sums_same hp hv hw =
        ap (λ b. exchanged sums (part_sums name (has_pairs old) (filter (inside t) old)) (part_sums name b (filter (inside t) new)))
        left_same
        ∙ exchange_same (subst (λ n. n ≤ sums.pairs) (row_pairs old) hp) (subst (λ n. n ≤ sums.value_bytes) (row_values old) hv) (has_pairs old) (has_pairs new) (subst (λ (s : Sums). s.weight ≤ sums.weight) (row_is_part name old) hw)
        ∙ (λ i. exchanged sums (sym (row_is_part name old) i) (sym (row_is_part name new) i))
