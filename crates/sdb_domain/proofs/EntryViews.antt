-- Entries of which some are hidden, entries taken back, and sums over entries.
use Rattle.std.proofs.Common.{◌≡◌, ℕ, zero, suc, length, drop, ◌+◌, Bool, true, false, cond, List, [], ◌∷◌, ◌++◌, Option, Some, None, Ordering, Less, Equal, Greater, refl, sym, ap, ◌∙◌, true≢false, is_eq, is_some, arith, unwrap_or, ◌≤◌}
use Rattle.std.specs.Cmp.{IsTotalOrder}
use Rattle.std.specs.Ordering.{match_ordering}
use Rattle.std.specs.Map.{lookup, remove_entry, set_value, keys_of}
use Rattle.std.specs.BTreeMap.{is_at, insert_entry}
use Rattle.std.specs.List.{sum_by}
use Rattle.std.specs.List.Sorted.{IsStrictlySortedBy}
use Rattle.std.proofs.lemmas.Cmp.{tied_itself, nat_list_cmp_total, eq_by_cmp_equiv}
use Rattle.std.proofs.lemmas.Map.{lookup-none}
use Rattle.std.proofs.lemmas.Map.Entries.{none_below_head, none_past_head}
use Rattle.std.proofs.lemmas.Map.Keys.{IsDistinct-from_sorted}
use Rattle.std.proofs.lemmas.Map.Lookups.{CmpEqualImpliesEq}
use Rattle.std.proofs.lemmas.Map.Steps.{set_value_same}
use Rattle.std.proofs.lemmas.List.Sums.{sum_by-cons}
use Rattle.sdb_base.specs.Texts.{text_cmp}
use Rattle.sdb_base.specs.Entries.{found, placed, IsRising}
use Rattle.sdb_base.proofs.Cases.{by_bool, by_ordering}
use Rattle.sdb_base.proofs.EntryLemmas.{key_at}
use Rattle.sdb_domain.specs.Keyed.{back, unwound}

pub none_is_not_some : {X : Type 0} {P : Type 0} (x : X) → None ≡ Some x → P
none_is_not_some x e = absurd (true≢false (sym (ap is_some e)))

pub some_same : {X : Type 0} (x y : X) → Some x ≡ Some y → x ≡ y
some_same x y e = ap (λ o. unwrap_or o x) e

pub none_from : {X : Type 0} (o : Option X) → ((x : X) → o ≡ Some x → ⊥) → o ≡ None
none_from None h = refl
none_from (Some x) h = absurd (h x refl)

-- past the end nothing is left
pub nothing_left : {X : Type 0} (xs : List X) (i : ℕ) → length xs ≤ i → drop i xs ≡ []
nothing_left [] zero le = refl
nothing_left [] (suc i) le = refl
nothing_left (x ∷ xs) zero le = absurd (omega arith)
nothing_left (x ∷ xs) (suc i) le = nothing_left xs i (omega arith)

-- ---- one entry written

module _ {K X : Type 0} (test : K → Bool) where
  -- where the first entry is the one that is looked up
  found_first : (e : K × X) (es : List (K × X)) → test e.0 ≡ true → lookup test (e ∷ es) ≡ Some e.1
  found_first e es t = ap (λ b. cond b (Some e.1) (lookup test es)) t

  found_later : (e : K × X) (es : List (K × X)) → test e.0 ≡ false → lookup test (e ∷ es) ≡ lookup test es
  found_later e es f = ap (λ b. cond b (Some e.1) (lookup test es)) f

  pub set_absent : (es : List (K × X)) (w : X) → lookup test es ≡ None → set_value test es w ≡ es
  set_absent [] w h = refl
  set_absent (e ∷ es) w h =
      by_bool (test e.0)
      (λ t. none_is_not_some e.1 (sym h ∙ found_first e es t))
      (λ f. ap (λ b. cond b ((e.0, w) ∷ es) (e ∷ set_value test es w)) f ∙ ap (λ l. e ∷ l) (set_absent es w (sym (found_later e es f) ∙ h)))

  pub set_again : (es : List (K × X)) (v w : X) → set_value test (set_value test es v) w ≡ set_value test es w
  set_again [] v w = refl
  set_again (e ∷ es) v w =
      let ih = set_again es v w in
      by_bool (test e.0)
      (λ t. ap (λ b. set_value test (cond b ((e.0, v) ∷ es) (e ∷ set_value test es v)) w) t
      ∙ ap (λ b. cond b ((e.0, w) ∷ es) ((e.0, v) ∷ set_value test es w)) t
      ∙ sym (ap (λ b. cond b ((e.0, w) ∷ es) (e ∷ set_value test es w)) t))
      (λ f. ap (λ b. set_value test (cond b ((e.0, v) ∷ es) (e ∷ set_value test es v)) w) f
      ∙ ap (λ b. cond b ((e.0, w) ∷ set_value test es v) (e ∷ set_value test (set_value test es v) w)) f
      ∙ ap (λ l. e ∷ l) ih
      ∙ sym (ap (λ b. cond b ((e.0, w) ∷ es) (e ∷ set_value test es w)) f))

module _ {K X : Type 0} {cmp : K → K → Ordering} (o : IsTotalOrder cmp) where
  -- what an insertion leaves, at each of the three cases
  inserted : (e : K × X) (es : List (K × X)) (k : K) (v : X) (r : Ordering) → cmp k e.0 ≡ r → insert_entry cmp (e ∷ es) k v ≡ match_ordering r ((k, v) ∷ e ∷ es) ((e.0, v) ∷ es) (e ∷ insert_entry cmp es k v)
  inserted e es k v r h = ap (λ x. match_ordering x ((k, v) ∷ e ∷ es) ((e.0, v) ∷ es) (e ∷ insert_entry cmp es k v)) h

  off_at : (k : K) (e : K × X) (r : Ordering) → cmp k e.0 ≡ r → is_at (cmp k) e.0 ≡ is_eq r
  off_at k e r h = ap is_eq h

  pub none_below : (e : K × X) (es : List (K × X)) (k : K) → IsRising cmp (e ∷ es) → cmp k e.0 ≡ Less → found cmp (e ∷ es) k ≡ None
  none_below e es k s lt = lookup-none (is_at (cmp k)) (e ∷ es) (none_below_head o k e es s lt)

  pub none_past : (e : K × X) (es : List (K × X)) (k : K) → IsRising cmp (e ∷ es) → is_at (cmp k) e.0 ≡ true → found cmp es k ≡ None
  none_past e es k s at = lookup-none (is_at (cmp k)) es (none_past_head (eq_by_cmp_equiv o) k e es (IsDistinct-from_sorted cmp (keys_of (e ∷ es)) s) at)

  -- a new entry, taken out again
  pub remove_inserted : (es : List (K × X)) (k : K) (v : X) → found cmp es k ≡ None → remove_entry (is_at (cmp k)) (insert_entry cmp es k v) ≡ es
  remove_inserted [] k v h = ap (λ r. cond (is_eq r) [] ((k, v) ∷ [])) (tied_itself o k)
  remove_inserted (e ∷ es) k v h =
      by_ordering (cmp k e.0)
      (λ r. ap (remove_entry (is_at (cmp k))) (inserted e es k v Less r) ∙ ap (λ x. cond (is_eq x) (e ∷ es) ((k, v) ∷ remove_entry (is_at (cmp k)) (e ∷ es))) (tied_itself o k))
      (λ r. none_is_not_some e.1 (sym h ∙ found_first (is_at (cmp k)) e es (off_at k e Equal r)))
      (λ r. ap (remove_entry (is_at (cmp k))) (inserted e es k v Greater r)
      ∙ ap (λ b. cond b (insert_entry cmp es k v) (e ∷ remove_entry (is_at (cmp k)) (insert_entry cmp es k v))) (off_at k e Greater r)
      ∙ ap (λ l. e ∷ l) (remove_inserted es k v (sym (found_later (is_at (cmp k)) e es (off_at k e Greater r)) ∙ h)))

  -- the value of a key that is there is written in place
  pub insert_there : (es : List (K × X)) (k : K) (v w : X) → IsRising cmp es → found cmp es k ≡ Some w → insert_entry cmp es k v ≡ set_value (is_at (cmp k)) es v
  unfolding IsStrictlySortedBy
  insert_there [] k v w s h = none_is_not_some w h
  insert_there (e ∷ es) k v w s h =
      by_ordering (cmp k e.0)
      (λ r. none_is_not_some w (sym (none_below e es k s r) ∙ h))
      (λ r. inserted e es k v Equal r ∙ sym (ap (λ b. cond b ((e.0, v) ∷ es) (e ∷ set_value (is_at (cmp k)) es v)) (off_at k e Equal r)))
      (λ r. inserted e es k v Greater r
      ∙ ap (λ l. e ∷ l) (insert_there es k v w s.1 (sym (found_later (is_at (cmp k)) e es (off_at k e Greater r)) ∙ h))
      ∙ sym (ap (λ b. cond b ((e.0, v) ∷ es) (e ∷ set_value (is_at (cmp k)) es v)) (off_at k e Greater r)))

-- ---- taking back

module _ {X : Type 0} (es : List (List ℕ × X)) (k : List ℕ) (s : IsRising text_cmp es) where
  pub back_inserted : (v : X) (was : Option X) → was ≡ found text_cmp es k → back (insert_entry text_cmp es k v) k was ≡ es
  back_inserted v None h = remove_inserted nat_list_cmp_total es k v (sym h)
  back_inserted v (Some w) h =
      ap (λ l. set_value (is_at (text_cmp k)) l w) (insert_there nat_list_cmp_total es k v w s (sym h))
      ∙ set_again (is_at (text_cmp k)) es v w
      ∙ set_value_same (is_at (text_cmp k)) es w (sym h)

-- what stands there, written once more
pub remove_absent : {K X : Type 0} (test : K → Bool) (es : List (K × X)) → lookup test es ≡ None → remove_entry test es ≡ es
remove_absent test [] h = refl
remove_absent test (e ∷ es) h =
    by_bool (test e.0)
    (λ t. none_is_not_some e.1 (sym h ∙ found_first test e es t))
    (λ f. ap (λ b. cond b es (e ∷ remove_entry test es)) f ∙ ap (λ l. e ∷ l) (remove_absent test es (sym (found_later test e es f) ∙ h)))

pub back_same : {X : Type 0} (es : List (List ℕ × X)) (k : List ℕ) (was : Option X) → was ≡ found text_cmp es k → back es k was ≡ es
back_same es k None h = remove_absent (is_at (text_cmp k)) es (sym h)
back_same es k (Some w) h = set_value_same (is_at (text_cmp k)) es w (sym h)

pub unwound_more : {S U : Type 0} (undone : S → U → S) (state : S) (log : List U) (u : U) → unwound undone state (log ++ u ∷ []) ≡ unwound undone (undone state u) log
unwound_more undone state [] u = refl
unwound_more undone state (v ∷ log) u = ap (λ st. undone st v) (unwound_more undone state log u)

-- ---- sums over entries

module _ {K X : Type 0} {cmp : K → K → Ordering} (o : IsTotalOrder cmp) (exact : CmpEqualImpliesEq cmp) (f : K × X → ℕ) (d : X) where
  -- what stands under the key weighs, or what stands for nothing
  abbrev pub weight_at : List (K × X) → K → ℕ
  weight_at es k = f (k, unwrap_or (found cmp es k) d)

  -- an entry written changes the sum by what it adds and what stood there
  pub sum_inserted : (es : List (K × X)) (k : K) (v : X) → f (k, d) ≡ 0 → IsRising cmp es → sum_by f (insert_entry cmp es k v) + weight_at es k ≡ sum_by f es + f (k, v)
  unfolding IsStrictlySortedBy
  sum_inserted [] k v z s = omega (arith, sum_by-cons f (k, v) [])
  sum_inserted (e ∷ es) k v z s =
      by_ordering (cmp k e.0)
      (λ r.
      let a : sum_by f (insert_entry cmp (e ∷ es) k v) ≡ f (k, v) + sum_by f (e ∷ es) = ap (sum_by f) (inserted o e es k v Less r) ∙ sum_by-cons f (k, v) (e ∷ es) in
      let b : weight_at (e ∷ es) k ≡ 0 = ap (λ x. f (k, unwrap_or x d)) (none_below o e es k s r) ∙ z in
      omega arith)
      (λ r.
      let same : k ≡ e.0 = exact k e.0 r in
      let a : sum_by f (insert_entry cmp (e ∷ es) k v) ≡ f (e.0, v) + sum_by f es = ap (sum_by f) (inserted o e es k v Equal r) ∙ sum_by-cons f (e.0, v) es in
      let b : weight_at (e ∷ es) k ≡ f (k, e.1) = ap (λ x. f (k, unwrap_or x d)) (found_first (is_at (cmp k)) e es (off_at o k e Equal r)) in
      let l : sum_by f (e ∷ es) ≡ f e + sum_by f es = sum_by-cons f e es in
      let u : f (k, e.1) ≡ f e = ap (λ x. f (x, e.1)) same in
      let w : f (k, v) ≡ f (e.0, v) = ap (λ x. f (x, v)) same in
      omega arith)
      (λ r.
      let ih = sum_inserted es k v z s.1 in
      let a : sum_by f (insert_entry cmp (e ∷ es) k v) ≡ f e + sum_by f (insert_entry cmp es k v) = ap (sum_by f) (inserted o e es k v Greater r) ∙ sum_by-cons f e (insert_entry cmp es k v) in
      let b : weight_at (e ∷ es) k ≡ weight_at es k = ap (λ x. f (k, unwrap_or x d)) (found_later (is_at (cmp k)) e es (off_at o k e Greater r)) in
      let l : sum_by f (e ∷ es) ≡ f e + sum_by f es = sum_by-cons f e es in
      omega arith)

  -- no entry weighs more than all
  pub weight_within : (es : List (K × X)) (k : K) → f (k, d) ≡ 0 → weight_at es k ≤ sum_by f es
  weight_within [] k z = omega arith
  weight_within (e ∷ es) k z =
      let ih = weight_within es k z in
      let l : sum_by f (e ∷ es) ≡ f e + sum_by f es = sum_by-cons f e es in
      by_bool (is_at (cmp k) e.0)
      (λ t.
      let b : weight_at (e ∷ es) k ≡ f (k, e.1) = ap (λ x. f (k, unwrap_or x d)) (found_first (is_at (cmp k)) e es t) in
      let u : f (k, e.1) ≡ f e = ap (λ x. f (x, e.1)) (key_at exact k e.0 t) in
      omega arith)
      (λ n.
      let b : weight_at (e ∷ es) k ≡ weight_at es k = ap (λ x. f (k, unwrap_or x d)) (found_later (is_at (cmp k)) e es n) in
      omega arith)

-- the same, where nothing adds nothing
module _ {K X : Type 0} {cmp : K → K → Ordering} (o : IsTotalOrder cmp) (exact : CmpEqualImpliesEq cmp) (f : K × X → ℕ) where
  abbrev pub adds : K → Option X → ℕ
  adds k None = 0
  adds k (Some x) = f (k, x)

  pub sum_put : (es : List (K × X)) (k : K) (v : X) → IsRising cmp es → sum_by f (insert_entry cmp es k v) + adds k (found cmp es k) ≡ sum_by f es + f (k, v)
  unfolding IsStrictlySortedBy
  sum_put [] k v s = omega (arith, sum_by-cons f (k, v) [])
  sum_put (e ∷ es) k v s =
      let l : sum_by f (e ∷ es) ≡ f e + sum_by f es = sum_by-cons f e es in
      by_ordering (cmp k e.0)
      (λ r.
      let a : sum_by f (insert_entry cmp (e ∷ es) k v) ≡ f (k, v) + sum_by f (e ∷ es) = ap (sum_by f) (inserted o e es k v Less r) ∙ sum_by-cons f (k, v) (e ∷ es) in
      let b : adds k (found cmp (e ∷ es) k) ≡ 0 = ap (adds k) (none_below o e es k s r) in
      omega arith)
      (λ r.
      let same : k ≡ e.0 = exact k e.0 r in
      let a : sum_by f (insert_entry cmp (e ∷ es) k v) ≡ f (e.0, v) + sum_by f es = ap (sum_by f) (inserted o e es k v Equal r) ∙ sum_by-cons f (e.0, v) es in
      let b : adds k (found cmp (e ∷ es) k) ≡ f (k, e.1) = ap (adds k) (found_first (is_at (cmp k)) e es (off_at o k e Equal r)) in
      let u : f (k, e.1) ≡ f e = ap (λ x. f (x, e.1)) same in
      let w : f (k, v) ≡ f (e.0, v) = ap (λ x. f (x, v)) same in
      omega arith)
      (λ r.
      let ih = sum_put es k v s.1 in
      let a : sum_by f (insert_entry cmp (e ∷ es) k v) ≡ f e + sum_by f (insert_entry cmp es k v) = ap (sum_by f) (inserted o e es k v Greater r) ∙ sum_by-cons f e (insert_entry cmp es k v) in
      let b : adds k (found cmp (e ∷ es) k) ≡ adds k (found cmp es k) = ap (adds k) (found_later (is_at (cmp k)) e es (off_at o k e Greater r)) in
      omega arith)

  pub sum_removed : (es : List (K × X)) (k : K) → sum_by f (remove_entry (is_at (cmp k)) es) + adds k (found cmp es k) ≡ sum_by f es
  sum_removed [] k = refl
  sum_removed (e ∷ es) k =
      let l : sum_by f (e ∷ es) ≡ f e + sum_by f es = sum_by-cons f e es in
      by_bool (is_at (cmp k) e.0)
      (λ t.
      let a : sum_by f (remove_entry (is_at (cmp k)) (e ∷ es)) ≡ sum_by f es = ap (λ b. sum_by f (cond b es (e ∷ remove_entry (is_at (cmp k)) es))) t in
      let b : adds k (found cmp (e ∷ es) k) ≡ f (k, e.1) = ap (adds k) (found_first (is_at (cmp k)) e es t) in
      let u : f (k, e.1) ≡ f e = ap (λ x. f (x, e.1)) (key_at exact k e.0 t) in
      omega arith)
      (λ n.
      let ih = sum_removed es k in
      let a : sum_by f (remove_entry (is_at (cmp k)) (e ∷ es)) ≡ f e + sum_by f (remove_entry (is_at (cmp k)) es) =
      ap (λ b. sum_by f (cond b es (e ∷ remove_entry (is_at (cmp k)) es))) n ∙ sum_by-cons f e (remove_entry (is_at (cmp k)) es) in
      let b : adds k (found cmp (e ∷ es) k) ≡ adds k (found cmp es k) = ap (adds k) (found_later (is_at (cmp k)) e es n) in
      omega arith)

  pub sum_placed : (es : List (K × X)) (k : K) (w : Option X) → IsRising cmp es → sum_by f (placed cmp es k w) + adds k (found cmp es k) ≡ sum_by f es + adds k w
  sum_placed es k None s = let h = sum_removed es k in omega arith
  sum_placed es k (Some v) s = sum_put es k v s
