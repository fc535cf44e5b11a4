-- Entries of which some are hidden: what is found in them, their order, and sums over them.
use Rattle.std.proofs.Common.{◌≡◌, ℕ, ◌+◌, Bool, true, false, cond, List, [], ◌∷◌, Option, Some, None, Less, refl, sym, ap, ◌∙◌, arith}
use Rattle.std.specs.Map.{remove_entry, keys_of}
use Rattle.std.specs.BTreeMap.{is_at, insert_entry}
use Rattle.std.specs.List.{AllByRecursion, sum_by}
use Rattle.std.specs.List.Sorted.{IsStrictlySortedBy}
use Rattle.std.proofs.lemmas.Cmp.{nat_list_cmp_total}
use Rattle.std.proofs.lemmas.List.Sums.{sum_by-cons}
use Rattle.std.proofs.lemmas.Map.Lookups.{exact_bytes}
use Rattle.std.proofs.lemmas.Map.Steps.{set_value_same}
use Rattle.sdb_base.specs.Texts.{text_cmp}
use Rattle.sdb_base.specs.Entries.{found, placed, IsRising}
use Rattle.sdb_base.proofs.Cases.{by_bool}
use Rattle.sdb_base.proofs.EntryLemmas.{found-insert, found-placed, rising-placed, same_entries}
use Rattle.sdb_domain.specs.Keyed.{with_shown, seen}
use Rattle.sdb_domain.proofs.EntryViews.{none_past, insert_there, some_same}

module _ {X Y : Type 0} (see : X → Option Y) where
  -- what is seen of what stands there
  abbrev pub seen_of : Option X → Option Y
  seen_of None = None
  seen_of (Some x) = see x

  seen_if : (b : Bool) (x : X) (o : Option X) → seen_of (cond b (Some x) o) ≡ cond b (see x) (seen_of o)
  seen_if true x o = refl
  seen_if false x o = refl

  above-seen : (k : List ℕ) (es : List (List ℕ × X)) → AllByRecursion (λ y. text_cmp k y ≡ Less) (keys_of es) → AllByRecursion (λ y. text_cmp k y ≡ Less) (keys_of (seen see es))
  above-seen k [] h = tt
  above-seen k (e ∷ es) h =
      let ih = above-seen k es h.1 in
      elim (see e.1) as (λ o. AllByRecursion (λ y. text_cmp k y ≡ Less) (keys_of (with_shown e.0 o (seen see es)))) [ None ↦ ih | Some y ↦ (h.0, ih) ]

  pub rising-seen : (es : List (List ℕ × X)) → IsRising text_cmp es → IsRising text_cmp (seen see es)
  unfolding IsStrictlySortedBy
  rising-seen [] s = tt
  rising-seen (e ∷ es) s =
      let ih = rising-seen es s.1 in
      let above = above-seen e.0 es s.0 in
      elim (see e.1) as (λ o. IsRising text_cmp (with_shown e.0 o (seen see es))) [ None ↦ ih | Some y ↦ (above, ih) ]

  -- an entry in front, by whether it is looked up
  front_at : (q : List ℕ) (k : List ℕ) (o : Option Y) (rest : List (List ℕ × Y)) → is_at (text_cmp q) k ≡ true → found text_cmp rest q ≡ None → found text_cmp (with_shown k o rest) q ≡ o
  front_at q k None rest at none = none
  front_at q k (Some y) rest at none = ap (λ b. cond b (Some y) (found text_cmp rest q)) at

  front_off : (q : List ℕ) (k : List ℕ) (o : Option Y) (rest : List (List ℕ × Y)) → is_at (text_cmp q) k ≡ false → found text_cmp (with_shown k o rest) q ≡ found text_cmp rest q
  front_off q k None rest off = refl
  front_off q k (Some y) rest off = ap (λ b. cond b (Some y) (found text_cmp rest q)) off

  pub found-seen : (es : List (List ℕ × X)) (q : List ℕ) → IsRising text_cmp es → found text_cmp (seen see es) q ≡ seen_of (found text_cmp es q)
  unfolding IsStrictlySortedBy
  found-seen [] q s = refl
  found-seen (e ∷ es) q s =
      let ih = found-seen es q s.1 in
      by_bool (is_at (text_cmp q) e.0)
      (λ at. front_at q e.0 (see e.1) (seen see es) at (ih ∙ ap seen_of (none_past nat_list_cmp_total e es q s at)) ∙ sym (ap (λ b. seen_of (cond b (Some e.1) (found text_cmp es q))) at))
      (λ off. front_off q e.0 (see e.1) (seen see es) off ∙ ih ∙ sym (ap (λ b. seen_of (cond b (Some e.1) (found text_cmp es q))) off))

  -- an entry written shows what is seen of it
  pub seen-put : (es : List (List ℕ × X)) (k : List ℕ) (v : X) → IsRising text_cmp es → seen see (insert_entry text_cmp es k v) ≡ placed text_cmp (seen see es) k (see v)
  seen-put es k v s =
      let after : IsRising text_cmp (insert_entry text_cmp es k v) = rising-placed nat_list_cmp_total es k (Some v) s in
      let shown : IsRising text_cmp (seen see es) = rising-seen es s in
      same_entries nat_list_cmp_total exact_bytes (seen see (insert_entry text_cmp es k v)) (placed text_cmp (seen see es) k (see v))
      (rising-seen (insert_entry text_cmp es k v) after) (rising-placed nat_list_cmp_total (seen see es) k (see v) shown)
      (λ q.
      found-seen (insert_entry text_cmp es k v) q after
      ∙ ap seen_of (found-insert nat_list_cmp_total es k q v)
      ∙ seen_if (is_at (text_cmp q) k) v (found text_cmp es q)
      ∙ ap (cond (is_at (text_cmp q) k) (see v)) (sym (found-seen es q s))
      ∙ sym (found-placed nat_list_cmp_total (seen see es) k q (see v) shown))

  -- a sum over what is seen is one over all, where nothing is added by what is hidden
  module _ (f : List ℕ × X → ℕ) (g : List ℕ × Y → ℕ) where
    abbrev pub shown_weight : List ℕ → Option Y → ℕ
    shown_weight k None = 0
    shown_weight k (Some y) = g (k, y)

    front_sum : (k : List ℕ) (o : Option Y) (rest : List (List ℕ × Y)) → sum_by g (with_shown k o rest) ≡ shown_weight k o + sum_by g rest
    front_sum k None rest = omega arith
    front_sum k (Some y) rest = sum_by-cons g (k, y) rest

    pub sum-seen : (es : List (List ℕ × X)) → ((k : List ℕ) (x : X) → f (k, x) ≡ shown_weight k (see x)) → sum_by g (seen see es) ≡ sum_by f es
    sum-seen [] h = refl
    sum-seen (e ∷ es) h =
        let ih = sum-seen es h in
        let a = front_sum e.0 (see e.1) (seen see es) in
        let b : sum_by f (e ∷ es) ≡ f e + sum_by f es = sum_by-cons f e es in
        let c : f e ≡ shown_weight e.0 (see e.1) = h e.0 e.1 in
        omega arith

-- what stands there, set once more
pub place_same : {X : Type 0} (es : List (List ℕ × X)) (k : List ℕ) (x : X) → IsRising text_cmp es → found text_cmp es k ≡ Some x → placed text_cmp es k (Some x) ≡ es
place_same es k x s h = insert_there nat_list_cmp_total es k x x s h ∙ set_value_same (is_at (text_cmp k)) es x h

-- a hidden entry, taken out
pub seen-removed : {X Y : Type 0} (see : X → Option Y) (es : List (List ℕ × X)) (k : List ℕ) (w : X) → found text_cmp es k ≡ Some w → see w ≡ None → seen see (remove_entry (is_at (text_cmp k)) es) ≡ seen see es
seen-removed see [] k w h hidden = refl
seen-removed see (e ∷ es) k w h hidden =
    by_bool (is_at (text_cmp k) e.0)
    (λ t.
    let is : e.1 ≡ w = some_same e.1 w (sym (ap (λ b. cond b (Some e.1) (found text_cmp es k)) t) ∙ h) in
    ap (λ b. seen see (cond b es (e ∷ remove_entry (is_at (text_cmp k)) es))) t
    ∙ sym (ap (λ o. with_shown e.0 o (seen see es)) (ap see is ∙ hidden)))
    (λ f.
    ap (λ b. seen see (cond b es (e ∷ remove_entry (is_at (text_cmp k)) es))) f
    ∙ ap (with_shown e.0 (see e.1)) (seen-removed see es k w (sym (ap (λ b. cond b (Some e.1) (found text_cmp es k)) f) ∙ h) hidden))
