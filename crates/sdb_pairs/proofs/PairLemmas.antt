-- Pairs in their order, and what the edits of an item leave.
use Rattle.std.proofs.Common.{◌≡◌, ℕ, ◌+◌, ◌-◌, ◌<◌, ◌≤◌, Bool, true, false, not, ◌&&◌, List, [], ◌∷◌, ◌++◌, length, get_or, take, drop, slice_range, Ordering, Less, Equal, Greater, refl, sym, ap, ◌∙◌, subst, ⊎_elim, arith, filter, is_eq, is_lt, is_gt, true≢false, length-drop, length-take, get_or-drop, get_or-take, drop-drop, take-append-drop}
use Rattle.std.specs.Cmp.{IsTotalOrder, Equal-is}
use Rattle.std.specs.Cmp.Lexicographic.{texts_ties}
use Rattle.std.specs.Ordering.{ordering_index, ordering_then}
use Rattle.std.specs.List.{AllByRecursion, HoldsAt, insert, remove, remove_range}
use Rattle.std.specs.List.Sorted.{IsStrictlySortedBy, IsNonDecreasingBy, IsPartitionPoint, IsPartitionedBy}
use Rattle.std.proofs.lemmas.Bool.{cases_lt}
use Rattle.std.proofs.lemmas.Cmp.{then_total, on_total, nat_list_cmp_total, alike_right}
use Rattle.std.proofs.lemmas.List.Elements.{filter-append}
use Rattle.std.proofs.lemmas.List.Kept.{IsStrictlySortedBy-filter}
use Rattle.std.proofs.lemmas.Map.Keys.{Less-from_sorted}
use Rattle.std.proofs.lemmas.Map.Lookups.{exact_bytes}
use Rattle.sdb_base.specs.Texts.{text_cmp}
use Rattle.sdb_pairs.specs.declared.pair.Pair.{Pair}
use Rattle.sdb_pairs.specs.declared.op.Op.{Op}
use Rattle.sdb_pairs.specs.declared.op.Op.TheVariants.{AddPair, DropPair, DropName, DropAll}
use Rattle.sdb_pairs.specs.Pairs.{pair_cmp, pair_eq, with_pair, is_named, part_named, after_op, merged}
use Rattle.sdb_base.proofs.Cases.{by_ordering}
use Rattle.sdb_base.proofs.KeyLemmas.{insert_key-at, insert_key-there, rising-insert_key, searchable, filter-absent, filter-there, each_weaker, each_from_places, filter_all, filter_none, parted_front, parted_back}

pub pair_total : IsTotalOrder pair_cmp
pair_total = then_total (on_total (λ (p : Pair). p.name) nat_list_cmp_total) (on_total (λ (p : Pair). p.value) nat_list_cmp_total)

is_eq-then : (r s : Ordering) → is_eq (ordering_then r s) ≡ is_eq r && is_eq s
is_eq-then Less s = refl
is_eq-then Equal s = refl
is_eq-then Greater s = refl

-- equality and the order tie the same pairs
pub pair_ties : (a b : Pair) → pair_eq a b ≡ is_eq (pair_cmp a b)
pair_ties a b = (λ i. texts_ties a.name b.name i && texts_ties a.value b.value i) ∙ sym (is_eq-then (text_cmp a.name b.name) (text_cmp a.value b.value))

module _ (p : Pair) (pairs slice : List Pair) (same : slice ≡ pairs) (rising : IsStrictlySortedBy pair_cmp pairs) (i : ℕ) where
  keeps_is : (q : Pair) → not (pair_eq q p) ≡ not (is_eq (pair_cmp q p))
  keeps_is q = ap not (pair_ties q p)

  module _ (within : i < length slice) (found : HoldsAt (λ y. pair_cmp y p ≡ Equal) slice i) where
    pub added_there : pairs ≡ with_pair pairs p
    added_there = subst (λ l. IsStrictlySortedBy pair_cmp l → l ≡ with_pair l p) same (λ s. sym (insert_key-there pair_total p slice i s within found)) rising

    pub dropped_there : remove pairs i ≡ filter (λ q. not (pair_eq q p)) pairs
    dropped_there = subst (λ l. IsStrictlySortedBy pair_cmp l → remove l i ≡ filter (λ q. not (pair_eq q p)) l) same (λ s. filter-there pair_total p _ keeps_is slice i s within found) rising

  module _ (within : i ≤ length slice) (parts : IsNonDecreasingBy (λ y. ordering_index (pair_cmp y p)) slice → IsPartitionPoint (λ y. pair_cmp y p ≡ Less) (λ y. pair_cmp y p ≡ Greater) slice i) where
    parted : IsStrictlySortedBy pair_cmp slice → IsPartitionPoint (λ y. pair_cmp y p ≡ Less) (λ y. pair_cmp y p ≡ Greater) slice i
    parted s = parts (searchable pair_total p slice s)

    pub added_at : insert pairs i p ≡ with_pair pairs p
    added_at = subst (λ l. IsStrictlySortedBy pair_cmp l → insert l i p ≡ with_pair l p) same (λ s. insert_key-at pair_total p slice i within (parted s).0 (parted s).1) rising

    pub dropped_absent : pairs ≡ filter (λ q. not (pair_eq q p)) pairs
    dropped_absent = subst (λ l. IsStrictlySortedBy pair_cmp l → l ≡ filter (λ q. not (pair_eq q p)) l) same (λ s. sym (filter-absent pair_total p _ keeps_is slice i (parted s).0 (parted s).1)) rising

  pub rising_added : IsStrictlySortedBy pair_cmp (with_pair pairs p)
  rising_added = rising-insert_key pair_total p pairs rising

-- ---- the part with a name

-- the ordering that a test found
less_found : (r : Ordering) → is_lt r ≡ true → r ≡ Less
less_found Less e = refl
less_found Equal e = absurd (true≢false (sym e))
less_found Greater e = absurd (true≢false (sym e))

first_not_above : (r s : Ordering) → ordering_then r s ≡ Less → is_gt r ≡ false
first_not_above Less s e = refl
first_not_above Equal s e = refl
first_not_above Greater s e = absurd (true≢false (sym (ap is_lt e)))

-- a name that isn't above one below `n` is below `n` too
still_below : (a b n : List ℕ) → is_gt (text_cmp a b) ≡ false → text_cmp b n ≡ Less → text_cmp a n ≡ Less
still_below a b n up below =
    by_ordering (text_cmp a b)
    (λ e. nat_list_cmp_total.trans a b n e below)
    (λ e. nat_list_cmp_total.congr a b n e ∙ below)
    (λ e. absurd (true≢false (sym (ap is_gt e) ∙ up)))

-- a name that isn't above `n` and isn't below it either is `n`
still_equal : (a b n : List ℕ) → is_gt (text_cmp a b) ≡ false → text_cmp b n ≡ Equal → is_lt (text_cmp a n) ≡ false → text_cmp a n ≡ Equal
still_equal a b n up at from =
    by_ordering (text_cmp a b)
    (λ e. absurd (true≢false (sym (ap is_lt (sym (alike_right nat_list_cmp_total b n a at) ∙ e)) ∙ from)))
    (λ e. nat_list_cmp_total.congr a b n e ∙ at)
    (λ e. absurd (true≢false (sym (ap is_gt e) ∙ up)))

module _ (name : List ℕ) where
  abbrev pub is_below : Pair → Bool
  is_below p = is_lt (text_cmp p.name name)

  below_isnt_named : (p : Pair) → is_below p ≡ true → is_named name p ≡ false
  below_isnt_named p e = texts_ties p.name name ∙ ap is_eq (less_found _ e)

  module _ (pairs : List Pair) (rising : IsStrictlySortedBy pair_cmp pairs) where
    not_above : (i j : ℕ) (d : Pair) → i < j → j < length pairs → is_gt (text_cmp (get_or pairs i d).name (get_or pairs j d).name) ≡ false
    not_above i j d lt high = first_not_above _ _ (Less-from_sorted pair_cmp pairs i j d rising lt high)

    pub parted_below : IsPartitionedBy is_below pairs
    parted_below i j d le high passes =
        ⊎_elim
        (λ lt. ap is_lt (still_below _ _ name (not_above i j d lt high) (less_found _ passes)))
        (λ ge. let same : j ≡ i = omega arith in subst (λ k. is_below (get_or pairs k d) ≡ true) same passes)
        (cases_lt i j)

    module _ (start : ℕ) (within : start ≤ length pairs) (point : IsPartitionPoint (λ p. is_below p ≡ true) (λ p. is_below p ≡ false) pairs start) (rest : List Pair) (is_rest : rest ≡ drop start pairs) where
      rest_at : (i : ℕ) (d : Pair) → get_or rest i d ≡ get_or pairs (start + i) d
      rest_at i d = ap (λ l. get_or l i d) is_rest ∙ get_or-drop start pairs i d

      rest_length : length rest ≡ length pairs - start
      rest_length = ap length is_rest ∙ length-drop start pairs

      named_here : (i : ℕ) (d : Pair) (x : Pair) → x ≡ get_or pairs (start + i) d → i < length rest → is_below x ≡ false
      named_here i d x e high = subst (λ y. is_below y ≡ false) (sym e) (point.1 (start + i) d (omega arith) (omega (arith, rest_length)))

      pub parted_named : IsPartitionedBy (is_named name) rest
      parted_named i j d le high passes =
          ⊎_elim
          (λ lt.
          let up : is_gt (text_cmp (get_or pairs (start + i) d).name (get_or pairs (start + j) d).name) ≡ false = not_above (start + i) (start + j) d (omega arith) (omega (arith, rest_length)) in
          let at : text_cmp (get_or pairs (start + j) d).name name ≡ Equal = (Equal-is _).0 (sym (texts_ties _ name) ∙ subst (λ x. is_named name x ≡ true) (rest_at j d) passes) in
          let from : is_below (get_or pairs (start + i) d) ≡ false = named_here i d _ refl (omega arith) in
          subst (λ x. is_named name x ≡ true) (sym (rest_at i d)) (texts_ties _ name ∙ ap is_eq (still_equal _ _ name up at from)))
          (λ ge. let same : j ≡ i = omega arith in subst (λ k. is_named name (get_or rest k d) ≡ true) same passes)
          (cases_lt i j)

      front_isnt_named : AllByRecursion (λ p. is_named name p ≡ false) (take start pairs)
      front_isnt_named = each_from_places _ (take start pairs) (λ i d lt.
          let high : i < start = omega (arith, length-take start pairs) in
          subst (λ x. is_named name x ≡ false) (sym (get_or-take start pairs i d high)) (below_isnt_named (get_or pairs i d) (point.0 i d (omega arith) high)))

      module _ (count : ℕ) (inside : count ≤ length rest) (end : IsPartitionPoint (λ p. is_named name p ≡ true) (λ p. is_named name p ≡ false) rest count) where
        pub span_is_part : slice_range pairs start (start + count) ≡ part_named name pairs
        span_is_part =
            let width : start + count - start ≡ count = omega arith in
            ap (λ n. take n (drop start pairs)) width
            ∙ ap (take count) (sym is_rest)
            ∙ parted_front (is_named name) rest count inside end.0 end.1
            ∙ ap (λ l. l ++ filter (is_named name) rest) (sym (filter_none (is_named name) (take start pairs) front_isnt_named))
            ∙ ap (λ l. filter (is_named name) (take start pairs) ++ filter (is_named name) l) is_rest
            ∙ sym (filter-append (is_named name) (take start pairs) (drop start pairs))
            ∙ ap (filter (is_named name)) (take-append-drop start pairs)

        pub others_stay : remove_range pairs start (start + count) ≡ filter (λ q. not (is_named name q)) pairs
        others_stay =
            let others : Pair → Bool = λ q. not (is_named name q) in
            ap (λ l. take start pairs ++ l) (sym (drop-drop count start pairs) ∙ ap (drop count) (sym is_rest) ∙ parted_back (is_named name) rest count inside end.0 end.1)
            ∙ ap (λ l. l ++ filter others rest) (sym (filter_all others (take start pairs) (each_weaker (λ p e. ap not e) (take start pairs) front_isnt_named)))
            ∙ ap (λ l. filter others (take start pairs) ++ filter others l) is_rest
            ∙ sym (filter-append others (take start pairs) (drop start pairs))
            ∙ ap (filter others) (take-append-drop start pairs)

-- what a filter keeps rises
pub rising_filtered : (test : Pair → Bool) (pairs : List Pair) → IsStrictlySortedBy pair_cmp pairs → IsStrictlySortedBy pair_cmp (filter test pairs)
rising_filtered = IsStrictlySortedBy-filter pair_cmp

pub rising_none : (pairs : List Pair) → pairs ≡ [] → IsStrictlySortedBy pair_cmp pairs
unfolding IsStrictlySortedBy
rising_none pairs e = subst (IsStrictlySortedBy pair_cmp) (sym e) tt

pub rising_after_op : (pairs : List Pair) (op : Op) → IsStrictlySortedBy pair_cmp pairs → IsStrictlySortedBy pair_cmp (after_op pairs op)
rising_after_op pairs (AddPair p) s = rising-insert_key pair_total p pairs s
rising_after_op pairs (DropPair p) s = rising_filtered _ pairs s
rising_after_op pairs (DropName name) s = rising_filtered _ pairs s
rising_after_op pairs DropAll s = rising_none [] refl

pub rising_merged : (pairs : List Pair) (ops : List Op) → IsStrictlySortedBy pair_cmp pairs → IsStrictlySortedBy pair_cmp (merged pairs ops)
rising_merged pairs [] s = s
rising_merged pairs (op ∷ ops) s = rising_merged (after_op pairs op) ops (rising_after_op pairs op s)

-- pairs that the order ties are one pair
pub pair_exact : (a b : Pair) → pair_cmp a b ≡ Equal → a ≡ b
pair_exact a b e =
    let both = both_equal (text_cmp a.name b.name) (text_cmp a.value b.value) e in
    let names : a.name ≡ b.name = exact_bytes a.name b.name both.0 in
    let values : a.value ≡ b.value = exact_bytes a.value b.value both.1 in
    λ i. record { name = names i; value = values i }
  where
    both_equal : (r s : Ordering) → ordering_then r s ≡ Equal → (r ≡ Equal) × (s ≡ Equal)
    both_equal Less s h = absurd (true≢false (sym (ap is_eq h)))
    both_equal Equal s h = (refl, h)
    both_equal Greater s h = absurd (true≢false (sym (ap is_eq h)))
