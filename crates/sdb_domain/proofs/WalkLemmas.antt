-- Walks from key to key meet the entries in order.
use Rattle.std.proofs.Common.{◌≡◌, ℕ, List, [], ◌∷◌, Option, Some, None, Less, Greater, refl, sym, ap, ◌∙◌, subst, true≢false, is_some, is_lt, cond, drop, get_or, unwrap_or}
use Rattle.std.specs.List.{AllByRecursion, slice_get}
use Rattle.std.specs.List.Sorted.{IsStrictlySortedBy}
use Rattle.std.specs.Map.{keys_of}
use Rattle.std.proofs.lemmas.Cmp.{nat_list_cmp_total, tied_itself}
use Rattle.sdb_base.specs.Entries.{IsRising}
use Rattle.sdb_base.specs.Texts.{text_cmp}
use Rattle.sdb_base.proofs.Cases.{by_ordering}
use Rattle.sdb_base.proofs.KeyLemmas.{each_weaker, turn}
use Rattle.sdb_pairs.specs.declared.pair.Pair.{Pair}
use Rattle.sdb_pairs.specs.Accounts.{ItemEntries, AreItems}
use Rattle.sdb_domain.specs.LookUps.{entries_after}
use Rattle.sdb_domain.specs.Laws.{Walks, ended, goes_on}

module _ {X : Type 0} where
  abbrev behind : List (List ℕ × X) → List ℕ → List (List ℕ × X)
  behind es k = entries_after es (Some k)

  all_behind : (k : List ℕ) (es : List (List ℕ × X)) → AllByRecursion (λ q. text_cmp k q ≡ Less) (keys_of es) → behind es k ≡ es
  all_behind k [] h = refl
  all_behind k (e ∷ es) h = ap (λ r. cond (is_lt r) (e ∷ behind es k) (behind es k)) h.0 ∙ ap (λ l. e ∷ l) (all_behind k es h.1)

  -- behind the first key stand all others
  behind_first : (e : List ℕ × X) (es : List (List ℕ × X)) → AllByRecursion (λ q. text_cmp e.0 q ≡ Less) (keys_of es) → behind (e ∷ es) e.0 ≡ es
  behind_first e es above = ap (λ r. cond (is_lt r) (e ∷ behind es e.0) (behind es e.0)) (tied_itself nat_list_cmp_total e.0) ∙ all_behind e.0 es above

  no_first : (e : List ℕ × X) (rest : List (List ℕ × X)) → [] ≡ e ∷ rest → ⊥
  no_first e rest h = cc

  -- of the entries above a key, those above the first one's key are the others
  behind_again : (es : List (List ℕ × X)) (k : List ℕ) (e : List ℕ × X) (rest : List (List ℕ × X)) → IsRising text_cmp es → behind es k ≡ e ∷ rest → (behind es e.0 ≡ rest) × (text_cmp k e.0 ≡ Less)
  unfolding IsStrictlySortedBy
  behind_again [] k e rest s h = absurd (no_first e rest h)
  behind_again (x ∷ es) k e rest s h =
      by_ordering (text_cmp k x.0)
      (λ less.
      let above : AllByRecursion (λ q. text_cmp k q ≡ Less) (keys_of es) = each_weaker (λ q more. nat_list_cmp_total.trans k x.0 q less more) (keys_of es) s.0 in
      let whole : x ∷ es ≡ e ∷ rest = sym (ap (λ r. cond (is_lt r) (x ∷ behind es k) (behind es k)) less ∙ ap (λ l. x ∷ l) (all_behind k es above)) ∙ h in
      let is : x ≡ e = ap (λ l. get_or l 0 x) whole in
      (ap (λ (y : List ℕ × X). behind (x ∷ es) y.0) (sym is) ∙ behind_first x es s.0 ∙ ap (drop 1) whole, ap (λ (y : List ℕ × X). text_cmp k y.0) (sym is) ∙ less))
      (λ equal.
      let later = behind_again es k e rest s.1 (sym (ap (λ r. cond (is_lt r) (x ∷ behind es k) (behind es k)) equal) ∙ h) in
      passed later (sym (nat_list_cmp_total.congr k x.0 e.0 equal) ∙ later.1))
      (λ greater.
      let later = behind_again es k e rest s.1 (sym (ap (λ r. cond (is_lt r) (x ∷ behind es k) (behind es k)) greater) ∙ h) in
      passed later (nat_list_cmp_total.trans x.0 k e.0 (turn nat_list_cmp_total k x.0 Greater greater) later.1))
    where
      passed : (behind es e.0 ≡ rest) × (text_cmp k e.0 ≡ Less) → text_cmp x.0 e.0 ≡ Less → (behind (x ∷ es) e.0 ≡ rest) × (text_cmp k e.0 ≡ Less)
      passed later low =
          (ap (λ r. cond (is_lt r) (x ∷ behind es e.0) (behind es e.0)) (turn nat_list_cmp_total x.0 e.0 Less low) ∙ later.0, later.1)

  pub entries_behind : (es : List (List ℕ × X)) (after : Option (List ℕ)) (e : List ℕ × X) (rest : List (List ℕ × X)) → IsRising text_cmp es → entries_after es after ≡ e ∷ rest → entries_after es (Some e.0) ≡ rest
  unfolding IsStrictlySortedBy
  entries_behind es None e rest s h =
      let rises : IsRising text_cmp (e ∷ rest) = subst (IsRising text_cmp) h s in
      ap (λ l. behind l e.0) h ∙ behind_first e rest rises.0
  entries_behind es (Some k) e rest s h = (behind_again es k e rest s h).0

-- ---- walks over items

none_left : (items : ItemEntries) → slice_get items 0 ≡ None → [] ≡ items
none_left [] h = refl
none_left (item ∷ items) h = absurd (true≢false (ap is_some h))

first_and_rest : (items : ItemEntries) (item : List ℕ × List Pair) → slice_get items 0 ≡ Some item → (rest : ItemEntries) × (items ≡ item ∷ rest)
first_and_rest [] item h = absurd (true≢false (sym (ap is_some h)))
first_and_rest (x ∷ items) item h = (items, ap (λ o. unwrap_or o item ∷ items) h)

pub walks_give_all : (items : ItemEntries) (after : Option (List ℕ)) (walked : ItemEntries) → AreItems items → Walks items after walked → walked ≡ entries_after items after
walks_give_all items _ _ are (ended after none) = none_left (entries_after items after) none
walks_give_all items _ _ are (goes_on after item rest least more) =
    let split = first_and_rest (entries_after items after) item least in
    ap (λ l. item ∷ l) (walks_give_all items (Some item.0) rest are more ∙ entries_behind items after item split.0 are.rising split.1) ∙ sym split.1
