-- Strictly rising lists: a key added at its place, one taken out, and lists with the same members.
use Rattle.std.proofs.Common.{◌≡◌, ℕ, zero, suc, ◌+◌, ◌<◌, ◌≤◌, Bool, true, false, cond, not, ◌||◌, List, [], ◌∷◌, ◌++◌, length, get_or, take, drop, Ordering, Less, Equal, Greater, refl, sym, ap, ◌∙◌, subst, arith, filter, ⊎_elim, true≢false, is_eq, is_lt}
use Rattle.std.specs.Cmp.{IsTotalOrder, Equal-is}
use Rattle.std.specs.Ordering.{ordering_index, ordering_reverse, match_ordering, eq_by_cmp}
use Rattle.std.specs.BTreeSet.{insert_key}
use Rattle.std.specs.List.{AllByRecursion, list_any, HoldsAt, AllWithin, insert, remove}
use Rattle.std.specs.List.Sorted.{IsStrictlySortedBy, IsNonDecreasingBy}
use Rattle.std.proofs.lemmas.Cmp.{tied_back, tied_itself, alike_right}
use Rattle.std.proofs.lemmas.List.Sorted.{searchable_from_sorted}
use Rattle.std.proofs.lemmas.Map.Keys.{Less-from_sorted}
use Rattle.std.proofs.lemmas.Map.Lookups.{CmpEqualImpliesEq}
use Rattle.std.proofs.lemmas.Bool.{cases_lt}
use Rattle.sdb_base.proofs.Cases.{by_bool, by_ordering}

-- what each element has, under a weaker fact
pub each_weaker : {X : Type 0} {P Q : X → Type 0} → ((x : X) → P x → Q x) → (xs : List X) → AllByRecursion P xs → AllByRecursion Q xs
each_weaker f [] h = tt
each_weaker f (x ∷ xs) h = (f x h.0, each_weaker f xs h.1)

pub filter_all : {X : Type 0} (p : X → Bool) (xs : List X) → AllByRecursion (λ x. p x ≡ true) xs → filter p xs ≡ xs
filter_all p [] h = refl
filter_all p (x ∷ xs) h = ap (λ b. cond b (x ∷ filter p xs) (filter p xs)) h.0 ∙ ap (λ l. x ∷ l) (filter_all p xs h.1)

pub filter_none : {X : Type 0} (p : X → Bool) (xs : List X) → AllByRecursion (λ x. p x ≡ false) xs → filter p xs ≡ []
filter_none p [] h = refl
filter_none p (x ∷ xs) h = ap (λ b. cond b (x ∷ filter p xs) (filter p xs)) h.0 ∙ filter_none p xs h.1

-- from a fact at each place
pub each_from_places : {X : Type 0} (P : X → Type 0) (xs : List X) → ((i : ℕ) (d : X) → i < length xs → P (get_or xs i d)) → AllByRecursion P xs
each_from_places P [] h = tt
each_from_places P (x ∷ xs) h = (h 0 x (omega arith), each_from_places P xs (λ i d lt. h (suc i) d (omega arith)))

-- what each has, one of them has
pub each_middle : {X : Type 0} (P : X → Type 0) (xs ys : List X) (x : X) → AllByRecursion P (xs ++ x ∷ ys) → P x
each_middle P [] ys x h = h.0
each_middle P (y ∷ xs) ys x h = each_middle P xs ys x h.1

-- in a rising list those before a key are below it
pub front_below : {K : Type 0} (cmp : K → K → Ordering) (xs ys : List K) (k : K) → IsStrictlySortedBy cmp (xs ++ k ∷ ys) → AllByRecursion (λ y. cmp y k ≡ Less) xs
unfolding IsStrictlySortedBy
front_below cmp [] ys k s = tt
front_below cmp (x ∷ xs) ys k s = (each_middle (λ y. cmp x y ≡ Less) xs ys k s.0, front_below cmp xs ys k s.1)

module _ {K : Type 0} {cmp : K → K → Ordering} (o : IsTotalOrder cmp) where
  -- the order of two keys, turned
  pub turn : (x y : K) (r : Ordering) → cmp x y ≡ r → cmp y x ≡ ordering_reverse r
  turn x y r e = o.antisymm y x ∙ ap ordering_reverse e

  -- a key below all others is below one that stands among them
  below_at : (x k : K) (ks : List K) (i : ℕ) → i < length ks → AllByRecursion (λ y. cmp x y ≡ Less) ks → HoldsAt (λ y. cmp y k ≡ Equal) ks i → cmp x k ≡ Less
  below_at x k [] i lt a h = absurd (omega arith)
  below_at x k (y ∷ ys) zero lt a h = alike_right o k y x (tied_back o y k (h y)) ∙ a.0
  below_at x k (y ∷ ys) (suc i) lt a h = below_at x k ys i (omega arith) a.1 h

  -- ---- a key added at its place

  above-insert_key : (x k : K) (ks : List K) → cmp x k ≡ Less → AllByRecursion (λ y. cmp x y ≡ Less) ks → AllByRecursion (λ y. cmp x y ≡ Less) (insert_key cmp ks k)
  above-insert_key x k [] lt h = (lt, tt)
  above-insert_key x k (y ∷ ys) lt h =
      let more = above-insert_key x k ys lt h.1 in
      elim (cmp k y) as (λ r. AllByRecursion (λ z. cmp x z ≡ Less) (match_ordering r (k ∷ y ∷ ys) (y ∷ ys) (y ∷ insert_key cmp ys k)))
      [ Less ↦ (lt, h) | Equal ↦ h | Greater ↦ (h.0, more) ]

  pub rising-insert_key : (k : K) (ks : List K) → IsStrictlySortedBy cmp ks → IsStrictlySortedBy cmp (insert_key cmp ks k)
  unfolding IsStrictlySortedBy
  rising-insert_key k [] s = (tt, tt)
  rising-insert_key k (y ∷ ys) s =
      let more = rising-insert_key k ys s.1 in
      (elim (cmp k y) as (λ r. cmp k y ≡ r → IsStrictlySortedBy cmp (match_ordering r (k ∷ y ∷ ys) (y ∷ ys) (y ∷ insert_key cmp ys k))) [
        | Less ↦ (λ e. ((e, each_weaker (λ z h. o.trans k y z e h) ys s.0), s))
        | Equal ↦ (λ e. s)
        | Greater ↦ (λ e. (above-insert_key y k ys (turn k y Greater e) s.0, more))
      ]) refl

  -- the key is there already
  pub insert_key-there : (k : K) (ks : List K) (i : ℕ) → IsStrictlySortedBy cmp ks → i < length ks → HoldsAt (λ y. cmp y k ≡ Equal) ks i → insert_key cmp ks k ≡ ks
  unfolding IsStrictlySortedBy
  insert_key-there k [] i s lt h = absurd (omega arith)
  insert_key-there k (y ∷ ys) zero s lt h = ap (λ r. match_ordering r (k ∷ y ∷ ys) (y ∷ ys) (y ∷ insert_key cmp ys k)) (turn y k Equal (h y))
  insert_key-there k (y ∷ ys) (suc i) s lt h =
      ap (λ r. match_ordering r (k ∷ y ∷ ys) (y ∷ ys) (y ∷ insert_key cmp ys k)) (turn y k Less (below_at y k ys i (omega arith) s.0 h))
      ∙ ap (λ l. y ∷ l) (insert_key-there k ys i s.1 (omega arith) h)

  -- the place between the keys below and those above
  pub insert_key-at : (k : K) (ks : List K) (i : ℕ) → i ≤ length ks → AllWithin (λ y. cmp y k ≡ Less) ks 0 i → AllWithin (λ y. cmp y k ≡ Greater) ks i (length ks) → insert ks i k ≡ insert_key cmp ks k
  insert_key-at k [] zero le below above = refl
  insert_key-at k [] (suc i) le below above = absurd (omega arith)
  insert_key-at k (y ∷ ys) zero le below above = sym (ap (λ r. match_ordering r (k ∷ y ∷ ys) (y ∷ ys) (y ∷ insert_key cmp ys k)) (turn y k Greater (above 0 y (omega arith) (omega arith))))
  insert_key-at k (y ∷ ys) (suc i) le below above =
      ap (λ l. y ∷ l) (insert_key-at k ys i (omega arith) (λ j d low high. below (suc j) d (omega arith) (omega arith)) (λ j d low high. above (suc j) d (omega arith) (omega arith)))
      ∙ sym (ap (λ r. match_ordering r (k ∷ y ∷ ys) (y ∷ ys) (y ∷ insert_key cmp ys k)) (turn y k Less (below 0 y (omega arith) (omega arith))))

  -- a key above all others goes to the end
  pub insert_key-last : (k : K) (ks : List K) → AllByRecursion (λ y. cmp y k ≡ Less) ks → insert_key cmp ks k ≡ ks ++ k ∷ []
  insert_key-last k [] h = refl
  insert_key-last k (y ∷ ys) h = ap (λ r. match_ordering r (k ∷ y ∷ ys) (y ∷ ys) (y ∷ insert_key cmp ys k)) (turn y k Less h.0) ∙ ap (λ l. y ∷ l) (insert_key-last k ys h.1)

  -- ---- what a binary search finds

  pub searchable : (k : K) (ks : List K) → IsStrictlySortedBy cmp ks → IsNonDecreasingBy (λ y. ordering_index (cmp y k)) ks
  searchable k ks s = searchable_from_sorted o (λ y. y) ks k (λ i d low high. ap is_lt (turn _ _ Less (Less-from_sorted cmp ks i (i + 1) d s (omega arith) high)))

  -- ---- a key taken out

  -- a test that the key alone fails, in the order's words
  module _ (k : K) (keeps : K → Bool) (is : (y : K) → keeps y ≡ not (is_eq (cmp y k))) where
    kept_unless : (y : K) (r : Ordering) → cmp y k ≡ r → is_eq r ≡ false → keeps y ≡ true
    kept_unless y r e n = is y ∙ ap (λ t. not (is_eq t)) e ∙ ap not n

    pub filter-absent : (ks : List K) (i : ℕ) → AllWithin (λ y. cmp y k ≡ Less) ks 0 i → AllWithin (λ y. cmp y k ≡ Greater) ks i (length ks) → filter keeps ks ≡ ks
    filter-absent ks i below above = filter_all keeps ks (each_from_places _ ks (λ j d lt.
        ⊎_elim (λ low. kept_unless _ Less (below j d (omega arith) low) refl) (λ high. kept_unless _ Greater (above j d high lt) refl) (cases_lt j i)))

    pub filter-there : (ks : List K) (i : ℕ) → IsStrictlySortedBy cmp ks → i < length ks → HoldsAt (λ y. cmp y k ≡ Equal) ks i → remove ks i ≡ filter keeps ks
    unfolding IsStrictlySortedBy
    filter-there [] i s lt h = absurd (omega arith)
    filter-there (y ∷ ys) zero s lt h =
        sym (ap (λ b. cond b (y ∷ filter keeps ys) (filter keeps ys)) (is y ∙ ap (λ t. not (is_eq t)) (h y))
        ∙ filter_all keeps ys (each_weaker (λ z e. kept_unless z Greater (turn k z Less (o.congr k y z (tied_back o y k (h y)) ∙ e)) refl) ys s.0))
    filter-there (y ∷ ys) (suc i) s lt h =
        ap (λ l. y ∷ l) (filter-there ys i s.1 (omega arith) h)
        ∙ sym (ap (λ b. cond b (y ∷ filter keeps ys) (filter keeps ys)) (kept_unless y Less (below_at y k ys i (omega arith) s.0 h) refl))

-- ---- the front that passes a test

pub parted_front : {X : Type 0} (p : X → Bool) (xs : List X) (n : ℕ) → n ≤ length xs → AllWithin (λ x. p x ≡ true) xs 0 n → AllWithin (λ x. p x ≡ false) xs n (length xs) → take n xs ≡ filter p xs
parted_front p [] zero le passes fails = refl
parted_front p [] (suc n) le passes fails = absurd (omega arith)
parted_front p (x ∷ xs) zero le passes fails = sym (filter_none p (x ∷ xs) (each_from_places _ (x ∷ xs) (λ i d lt. fails i d (omega arith) lt)))
parted_front p (x ∷ xs) (suc n) le passes fails =
    ap (λ l. x ∷ l) (parted_front p xs n (omega arith) (λ i d low high. passes (suc i) d (omega arith) (omega arith)) (λ i d low high. fails (suc i) d (omega arith) (omega arith)))
    ∙ sym (ap (λ b. cond b (x ∷ filter p xs) (filter p xs)) (passes 0 x (omega arith) (omega arith)))

pub parted_back : {X : Type 0} (p : X → Bool) (xs : List X) (n : ℕ) → n ≤ length xs → AllWithin (λ x. p x ≡ true) xs 0 n → AllWithin (λ x. p x ≡ false) xs n (length xs) → drop n xs ≡ filter (λ x. not (p x)) xs
parted_back p [] zero le passes fails = refl
parted_back p [] (suc n) le passes fails = absurd (omega arith)
parted_back p (x ∷ xs) zero le passes fails = sym (filter_all (λ x. not (p x)) (x ∷ xs) (each_from_places _ (x ∷ xs) (λ i d lt. ap not (fails i d (omega arith) lt))))
parted_back p (x ∷ xs) (suc n) le passes fails =
    parted_back p xs n (omega arith) (λ i d low high. passes (suc i) d (omega arith) (omega arith)) (λ i d low high. fails (suc i) d (omega arith) (omega arith))
    ∙ sym (ap (λ b. cond (not b) (x ∷ filter (λ x. not (p x)) xs) (filter (λ x. not (p x)) xs)) (passes 0 x (omega arith) (omega arith)))

-- ---- members

module _ {K : Type 0} {cmp : K → K → Ordering} (o : IsTotalOrder cmp) where
  -- whether the key is among the keys
  abbrev pub has : K → List K → Bool
  has q ks = list_any (eq_by_cmp cmp q) ks

  again : (b c : Bool) → (b || (b || c)) ≡ (b || c)
  again true c = refl
  again false c = refl

  swapped : (a b c : Bool) → (a || (b || c)) ≡ (b || (a || c))
  swapped true true c = refl
  swapped true false c = refl
  swapped false b c = refl

  pub has-insert_key : (q k : K) (ks : List K) → has q (insert_key cmp ks k) ≡ (eq_by_cmp cmp q k || has q ks)
  has-insert_key q k [] = refl
  has-insert_key q k (x ∷ xs) =
      let ih = has-insert_key q k xs in
      by_ordering (cmp k x)
      (λ r. ap (λ y. has q (match_ordering y (k ∷ x ∷ xs) (x ∷ xs) (x ∷ insert_key cmp xs k))) r)
      (λ r.
      ap (λ y. has q (match_ordering y (k ∷ x ∷ xs) (x ∷ xs) (x ∷ insert_key cmp xs k))) r
      ∙ sym (again (eq_by_cmp cmp q x) (has q xs))
      ∙ ap (λ y. is_eq y || (eq_by_cmp cmp q x || has q xs)) (sym (alike_right o k x q r)))
      (λ r.
      ap (λ y. has q (match_ordering y (k ∷ x ∷ xs) (x ∷ xs) (x ∷ insert_key cmp xs k))) r
      ∙ ap (λ b. eq_by_cmp cmp q x || b) ih
      ∙ swapped (eq_by_cmp cmp q x) (eq_by_cmp cmp q k) (has q xs))

  -- a key below all others is not among them
  has-above : (q : K) (ks : List K) → AllByRecursion (λ y. cmp q y ≡ Less) ks → has q ks ≡ false
  has-above q [] h = refl
  has-above q (x ∷ xs) h = ap (λ r. is_eq r || has q xs) h.0 ∙ has-above q xs h.1

  has-first : (x : K) (xs : List K) → has x (x ∷ xs) ≡ true
  has-first x xs = ap (λ r. is_eq r || has x xs) (tied_itself o x)

  module _ (exact : CmpEqualImpliesEq cmp) where
    module _ (x y : K) (xs ys : List K) (s : IsStrictlySortedBy cmp (x ∷ xs)) (t : IsStrictlySortedBy cmp (y ∷ ys)) (same : (q : K) → has q (x ∷ xs) ≡ has q (y ∷ ys)) where
      lacks_lower : (a b : K) (bs : List K) → IsStrictlySortedBy cmp (b ∷ bs) → cmp a b ≡ Less → has a (b ∷ bs) ≡ false
      unfolding IsStrictlySortedBy
      lacks_lower a b bs u lt = has-above a (b ∷ bs) (lt, each_weaker (λ z e. o.trans a b z lt e) bs u.0)

      heads : x ≡ y
      heads =
          by_ordering (cmp x y)
          (λ lt. absurd (true≢false (sym (has-first x xs) ∙ same x ∙ lacks_lower x y ys t lt)))
          (λ tie. exact x y tie)
          (λ gt. absurd (true≢false (sym (has-first y ys) ∙ sym (same y) ∙ lacks_lower y x xs s (o.antisymm y x ∙ ap ordering_reverse gt))))

      -- past equal heads, the rest have the same members
      rests : (q : K) → has q xs ≡ has q ys
      unfolding IsStrictlySortedBy
      rests q =
          by_bool (eq_by_cmp cmp q x)
          (λ at.
          let is : q ≡ x = exact q x ((Equal-is (cmp q x)).0 at) in
          subst (λ k. has k xs ≡ false) (sym is) (has-above x xs s.0)
          ∙ sym (subst (λ k. has k ys ≡ false) (sym (is ∙ heads)) (has-above y ys t.0)))
          (λ off.
          let off' : eq_by_cmp cmp q y ≡ false = subst (λ k. eq_by_cmp cmp q k ≡ false) heads off in
          sym (ap (λ b. b || has q xs) off) ∙ same q ∙ ap (λ b. b || has q ys) off')

    -- rising lists with the same members are one list
    pub same_members : (xs ys : List K) → IsStrictlySortedBy cmp xs → IsStrictlySortedBy cmp ys → ((q : K) → has q xs ≡ has q ys) → xs ≡ ys
    unfolding IsStrictlySortedBy
    same_members [] [] s t same = refl
    same_members [] (y ∷ ys) s t same = absurd (true≢false (sym (has-first y ys) ∙ sym (same y)))
    same_members (x ∷ xs) [] s t same = absurd (true≢false (sym (has-first x xs) ∙ same x))
    same_members (x ∷ xs) (y ∷ ys) s t same =
        let rest = same_members xs ys s.1 t.1 (rests x y xs ys s t same) in
        ap (λ k. k ∷ xs) (heads x y xs ys s t same) ∙ ap (λ l. y ∷ l) rest
