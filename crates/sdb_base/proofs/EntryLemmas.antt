-- Entries under rising keys: what is found after an entry is set or taken out, that the keys still rise, and that what is found tells the entries.
use Rattle.std.proofs.Common.{◌≡◌, ◌≢◌, Bool, true, false, cond, List, [], ◌∷◌, ◌++◌, Option, Some, None, Ordering, Less, Equal, Greater, refl, sym, ap, ◌∙◌, subst, true≢false, is_eq, is_some, unwrap_or, IfSome, All}
use Rattle.std.specs.Cmp.{IsTotalOrder, Equal-is}
use Rattle.std.specs.Ordering.{ordering_reverse, match_ordering}
use Rattle.std.specs.Map.{remove_entry, keys_of, values_of}
use Rattle.std.specs.BTreeMap.{is_at, insert_entry}
use Rattle.std.specs.BTreeSet.{insert_key}
use Rattle.std.specs.List.{AllByRecursion}
use Rattle.std.specs.List.Sorted.{IsStrictlySortedBy}
use Rattle.std.proofs.lemmas.Cmp.{alike_right, eq_by_cmp_equiv, tied_itself}
use Rattle.std.proofs.lemmas.List.{map-append}
use Rattle.std.proofs.lemmas.Map.{lookup-remove_entry}
use Rattle.std.proofs.lemmas.Map.Keys.{IsDistinct-from_sorted}
use Rattle.std.proofs.lemmas.Map.Lookups.{CmpEqualImpliesEq}
use Rattle.std.proofs.lemmas.Map.Views.{All-values-insert_entry, All-map-remove_entry}
use Rattle.sdb_base.specs.Entries.{found, placed, IsRising}
use Rattle.sdb_base.proofs.Cases.{by_bool, by_ordering}
use Rattle.sdb_base.proofs.KeyLemmas.{each_weaker, front_below, rising-insert_key, turn}

-- a choice made twice by one test
once : {X : Type 0} (b : Bool) (v w rest : X) → cond b v rest ≡ cond b v (cond b w rest)
once true v w rest = refl
once false v w rest = refl

module _ {K X : Type 0} {cmp : K → K → Ordering} (o : IsTotalOrder cmp) where
  -- the entry past the place of the key
  past : (k q : K) (e : K × X) (v : X) (rest more : Option X) → cmp k e.0 ≡ Greater → more ≡ cond (is_at (cmp q) k) (Some v) rest
      → cond (is_at (cmp q) e.0) (Some e.1) more ≡ cond (is_at (cmp q) k) (Some v) (cond (is_at (cmp q) e.0) (Some e.1) rest)
  past k q e v rest more above ih =
      by_bool (is_at (cmp q) e.0)
      (λ at.
      let tie : cmp q e.0 ≡ Equal = (Equal-is (cmp q e.0)).0 at in
      let below : cmp q k ≡ Less = o.congr q e.0 k tie ∙ o.antisymm e.0 k ∙ ap ordering_reverse above in
      ap (λ b. cond b (Some e.1) more) at
      ∙ sym (ap (λ r. cond (is_eq r) (Some v) (cond (is_at (cmp q) e.0) (Some e.1) rest)) below ∙ ap (λ b. cond b (Some e.1) rest) at))
      (λ off.
      ap (λ b. cond b (Some e.1) more) off ∙ ih
      ∙ ap (cond (is_at (cmp q) k) (Some v)) (sym (ap (λ b. cond b (Some e.1) rest) off)))

  pub found-insert : (es : List (K × X)) (k q : K) (v : X) → found cmp (insert_entry cmp es k v) q ≡ cond (is_at (cmp q) k) (Some v) (found cmp es q)
  found-insert [] k q v = refl
  found-insert (e ∷ es) k q v =
      let ih = found-insert es k q v in
      by_ordering (cmp k e.0)
      (λ r. ap (λ x. found cmp (match_ordering x ((k, v) ∷ e ∷ es) ((e.0, v) ∷ es) (e ∷ insert_entry cmp es k v)) q) r)
      (λ r.
      ap (λ x. found cmp (match_ordering x ((k, v) ∷ e ∷ es) ((e.0, v) ∷ es) (e ∷ insert_entry cmp es k v)) q) r
      ∙ once (is_at (cmp q) e.0) (Some v) (Some e.1) (found cmp es q)
      ∙ ap (λ b. cond b (Some v) (cond (is_at (cmp q) e.0) (Some e.1) (found cmp es q))) (ap is_eq (sym (alike_right o k e.0 q r))))
      (λ r.
      ap (λ x. found cmp (match_ordering x ((k, v) ∷ e ∷ es) ((e.0, v) ∷ es) (e ∷ insert_entry cmp es k v)) q) r
      ∙ past k q e v (found cmp es q) (found cmp (insert_entry cmp es k v) q) r ih)

  pub found-placed : (es : List (K × X)) (k q : K) (w : Option X) → IsRising cmp es → found cmp (placed cmp es k w) q ≡ cond (is_at (cmp q) k) w (found cmp es q)
  found-placed es k q (Some v) s = found-insert es k q v
  found-placed es k q None s =
      let laws = eq_by_cmp_equiv o in
      lookup-remove_entry laws (is_at (cmp k)) (λ x y t. laws.congr k x y t) q es (IsDistinct-from_sorted cmp (keys_of es) s)
      ∙ ap (λ b. cond b None (found cmp es q)) (laws.symm k q)

  keys-insert_entry : (es : List (K × X)) (k : K) (v : X) → keys_of (insert_entry cmp es k v) ≡ insert_key cmp (keys_of es) k
  keys-insert_entry [] k v = refl
  keys-insert_entry (e ∷ es) k v =
      let ih = keys-insert_entry es k v in
      elim (cmp k e.0) as (λ r. keys_of (match_ordering r ((k, v) ∷ e ∷ es) ((e.0, v) ∷ es) (e ∷ insert_entry cmp es k v)) ≡ match_ordering r (k ∷ e.0 ∷ keys_of es) (e.0 ∷ keys_of es) (e.0 ∷ insert_key cmp (keys_of es) k))
      [ Less ↦ refl | Equal ↦ refl | Greater ↦ ap (λ l. e.0 ∷ l) ih ]

  above-removed : (test : K → Bool) (x : K) (es : List (K × X)) → AllByRecursion (λ y. cmp x y ≡ Less) (keys_of es) → AllByRecursion (λ y. cmp x y ≡ Less) (keys_of (remove_entry test es))
  above-removed test x [] h = tt
  above-removed test x (e ∷ es) h =
      let ih = above-removed test x es h.1 in
      elim (test e.0) as (λ b. AllByRecursion (λ y. cmp x y ≡ Less) (keys_of (cond b es (e ∷ remove_entry test es)))) [ true ↦ h.1 | false ↦ (h.0, ih) ]

  rising-removed : (test : K → Bool) (es : List (K × X)) → IsRising cmp es → IsRising cmp (remove_entry test es)
  unfolding IsStrictlySortedBy
  rising-removed test [] s = tt
  rising-removed test (e ∷ es) s =
      let ih = rising-removed test es s.1 in
      let above = above-removed test e.0 es s.0 in
      elim (test e.0) as (λ b. IsRising cmp (cond b es (e ∷ remove_entry test es))) [ true ↦ s.1 | false ↦ (above, ih) ]

  pub rising-placed : (es : List (K × X)) (k : K) (w : Option X) → IsRising cmp es → IsRising cmp (placed cmp es k w)
  rising-placed es k None s = rising-removed (is_at (cmp k)) es s
  rising-placed es k (Some v) s = subst (IsStrictlySortedBy cmp) (sym (keys-insert_entry es k v)) (rising-insert_key o k (keys_of es) s)

  pub values-placed : (P : X → Type 0) (es : List (K × X)) (k : K) (w : Option X) → All P (values_of es) → IfSome w P → All P (values_of (placed cmp es k w))
  values-placed P es k None each fits = All-map-remove_entry (is_at (cmp k)) (λ e. e.1) P es each
  values-placed P es k (Some v) each fits = All-values-insert_entry cmp k v P es each fits

  -- ---- a key above all others

  -- in rising entries the keys before an entry are below its own
  pub keys_below : (es rest : List (K × X)) (e : K × X) → IsRising cmp (es ++ e ∷ rest) → AllByRecursion (λ y. cmp y e.0 ≡ Less) (keys_of es)
  keys_below es rest e s = front_below cmp (keys_of es) (keys_of rest) e.0 (subst (IsStrictlySortedBy cmp) (map-append (λ (x : K × X). x.0) es (e ∷ rest)) s)

  -- nothing stands under it
  pub found_above : (es : List (K × X)) (k : K) → AllByRecursion (λ y. cmp y k ≡ Less) (keys_of es) → found cmp es k ≡ None
  found_above [] k h = refl
  found_above (e ∷ es) k h = ap (λ r. cond (is_eq r) (Some e.1) (found cmp es k)) (turn o e.0 k Less h.0) ∙ found_above es k h.1

  -- an entry under it goes to the end
  pub insert_entry-last : (es : List (K × X)) (k : K) (v : X) → AllByRecursion (λ y. cmp y k ≡ Less) (keys_of es) → insert_entry cmp es k v ≡ es ++ (k, v) ∷ []
  insert_entry-last [] k v h = refl
  insert_entry-last (e ∷ es) k v h =
      ap (λ r. match_ordering r ((k, v) ∷ e ∷ es) ((e.0, v) ∷ es) (e ∷ insert_entry cmp es k v)) (turn o e.0 k Less h.0) ∙ ap (λ l. e ∷ l) (insert_entry-last es k v h.1)

  -- and is found there, and set again there
  pub found-last : (es : List (K × X)) (k : K) (v : X) → AllByRecursion (λ y. cmp y k ≡ Less) (keys_of es) → found cmp (es ++ (k, v) ∷ []) k ≡ Some v
  found-last [] k v h = ap (λ r. cond (is_eq r) (Some v) None) (tied_itself o k)
  found-last (e ∷ es) k v h = ap (λ r. cond (is_eq r) (Some e.1) (found cmp (es ++ (k, v) ∷ []) k)) (turn o e.0 k Less h.0) ∙ found-last es k v h.1

  pub insert_entry-again : (es : List (K × X)) (k : K) (v w : X) → AllByRecursion (λ y. cmp y k ≡ Less) (keys_of es) → insert_entry cmp (es ++ (k, w) ∷ []) k v ≡ es ++ (k, v) ∷ []
  insert_entry-again [] k v w h = ap (λ r. match_ordering r ((k, v) ∷ (k, w) ∷ []) ((k, v) ∷ []) ((k, w) ∷ (k, v) ∷ [])) (tied_itself o k)
  insert_entry-again (e ∷ es) k v w h =
      ap (λ r. match_ordering r ((k, v) ∷ e ∷ (es ++ (k, w) ∷ [])) ((e.0, v) ∷ (es ++ (k, w) ∷ [])) (e ∷ insert_entry cmp (es ++ (k, w) ∷ []) k v)) (turn o e.0 k Less h.0)
      ∙ ap (λ l. e ∷ l) (insert_entry-again es k v w h.1)

-- ---- keys that the order tells apart

module _ {K : Type 0} {cmp : K → K → Ordering} (exact : CmpEqualImpliesEq cmp) where
  pub key_at : (q k : K) → is_at (cmp q) k ≡ true → q ≡ k
  key_at q k h = exact q k ((Equal-is (cmp q k)).0 h)

  pub elsewhere : (q k : K) → q ≢ k → is_at (cmp q) k ≡ false
  elsewhere q k ne = by_bool (is_at (cmp q) k) (λ t. absurd (ne (key_at q k t))) (λ f. f)

-- ---- what is found tells the entries

module _ {K X : Type 0} {cmp : K → K → Ordering} (o : IsTotalOrder cmp) (exact : CmpEqualImpliesEq cmp) where
  none_above : (q : K) (es : List (K × X)) → AllByRecursion (λ y. cmp q y ≡ Less) (keys_of es) → found cmp es q ≡ None
  none_above q [] h = refl
  none_above q (e ∷ es) h = ap (λ r. cond (is_eq r) (Some e.1) (found cmp es q)) h.0 ∙ none_above q es h.1

  first_found : (e : K × X) (es : List (K × X)) → found cmp (e ∷ es) e.0 ≡ Some e.1
  first_found e es = ap (λ r. cond (is_eq r) (Some e.1) (found cmp es e.0)) (tied_itself o e.0)

  none_lower : (q : K) (e : K × X) (es : List (K × X)) → IsRising cmp (e ∷ es) → cmp q e.0 ≡ Less → found cmp (e ∷ es) q ≡ None
  unfolding IsStrictlySortedBy
  none_lower q e es s lt = none_above q (e ∷ es) (lt, each_weaker (λ z h. o.trans q e.0 z lt h) (keys_of es) s.0)

  not_both : (x : X) → Some x ≡ None → ⊥
  not_both x e = true≢false (ap is_some e)

  module _ (e f : K × X) (es fs : List (K × X)) (s : IsRising cmp (e ∷ es)) (t : IsRising cmp (f ∷ fs)) (same : (q : K) → found cmp (e ∷ es) q ≡ found cmp (f ∷ fs) q) where
    same_keys : e.0 ≡ f.0
    same_keys =
        by_ordering (cmp e.0 f.0)
        (λ lt. absurd (not_both e.1 (sym (first_found e es) ∙ same e.0 ∙ none_lower e.0 f fs t lt)))
        (λ tie. exact e.0 f.0 tie)
        (λ gt. absurd (not_both f.1 (sym (first_found f fs) ∙ sym (same f.0) ∙ none_lower f.0 e es s (o.antisymm f.0 e.0 ∙ ap ordering_reverse gt))))

    same_values : e.1 ≡ f.1
    same_values = ap (λ x. unwrap_or x e.1) (sym (first_found e es) ∙ same e.0 ∙ ap (found cmp (f ∷ fs)) same_keys ∙ first_found f fs)

    same_rests : (q : K) → found cmp es q ≡ found cmp fs q
    unfolding IsStrictlySortedBy
    same_rests q =
        by_bool (is_at (cmp q) e.0)
        (λ at.
        let is : q ≡ e.0 = key_at exact q e.0 at in
        subst (λ k. found cmp es k ≡ None) (sym is) (none_above e.0 es s.0)
        ∙ sym (subst (λ k. found cmp fs k ≡ None) (sym (is ∙ same_keys)) (none_above f.0 fs t.0)))
        (λ off.
        let off' : is_at (cmp q) f.0 ≡ false = subst (λ k. is_at (cmp q) k ≡ false) same_keys off in
        sym (ap (λ b. cond b (Some e.1) (found cmp es q)) off) ∙ same q ∙ ap (λ b. cond b (Some f.1) (found cmp fs q)) off')

  -- rising entries in which the same is found are the same
  pub same_entries : (es fs : List (K × X)) → IsRising cmp es → IsRising cmp fs → ((q : K) → found cmp es q ≡ found cmp fs q) → es ≡ fs
  unfolding IsStrictlySortedBy
  same_entries [] [] s t same = refl
  same_entries [] (f ∷ fs) s t same = absurd (not_both f.1 (sym (first_found f fs) ∙ sym (same f.0)))
  same_entries (e ∷ es) [] s t same = absurd (not_both e.1 (sym (first_found e es) ∙ same e.0))
  same_entries (e ∷ es) (f ∷ fs) s t same =
      let rest = same_entries es fs s.1 t.1 (same_rests e f es fs s t same) in
      λ i. (same_keys e f es fs s t same i, same_values e f es fs s t same i) ∷ rest i
