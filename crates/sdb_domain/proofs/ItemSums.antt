-- The sums that a domain keeps are those of the items that are seen.
use Rattle.std.proofs.Common.{◌≡◌, ℕ, ◌+◌, List, [], ◌∷◌, length, Option, Some, None, refl, sym, ap, ◌∙◌, arith, unwrap_or, cond, is_some}
use Rattle.std.specs.List.{sum_by}
use Rattle.std.proofs.lemmas.List.Sums.{sum_by-cons}
use Rattle.sdb_base.specs.Texts.{text_cmp}
use Rattle.sdb_pairs.specs.declared.pair.Pair.{Pair}
use Rattle.sdb_pairs.specs.Accounts.{ItemEntries, pairs_at}
use Rattle.sdb_pairs.specs.Changes.{item_with}
use Rattle.sdb_base.specs.Entries.{found, IsRising}
use Rattle.sdb_domain.specs.Held.{Kept, IsWhole, items_kept}
use Rattle.sdb_domain.specs.Keyed.{seen}
use Rattle.sdb_domain.specs.LookUps.{held_text}
use Rattle.sdb_domain.specs.Sums.{row_sums}
use Rattle.sdb_domain.specs.Weights.{item_weight, domain_weight, pair_count}
use Rattle.sdb_domain.proofs.SeenLemmas.{seen_of, found-seen, sum-seen, shown_weight}

pub length_as_sum : {X : Type 0} (xs : List X) → length xs ≡ sum_by (λ x. 1) xs
length_as_sum [] = refl
length_as_sum (x ∷ xs) =
    let ih = length_as_sum xs in
    let a : sum_by (λ y. 1) (x ∷ xs) ≡ 1 + sum_by (λ y. 1) xs = sum_by-cons (λ y. 1) x xs in
    omega arith

pub count_is : (kept : Kept) → IsWhole kept → kept.sums.items ≡ length (items_kept kept)
count_is kept whole = whole.items ∙ sym (length_as_sum (items_kept kept) ∙ sum-seen item_with (λ row. (row_sums row).items) (λ item. 1) kept.rows one)
  where
    one : (k : List ℕ) (ps : List Pair) → (row_sums (k, ps)).items ≡ shown_weight item_with (λ row. (row_sums row).items) (λ item. 1) k (item_with ps)
    one k [] = refl
    one k (p ∷ ps) = refl

pub weight_is : (kept : Kept) → IsWhole kept → kept.sums.weight ≡ domain_weight (items_kept kept)
weight_is kept whole = whole.weight ∙ sym (sum-seen item_with (λ row. (row_sums row).weight) item_weight kept.rows one)
  where
    one : (k : List ℕ) (ps : List Pair) → (row_sums (k, ps)).weight ≡ shown_weight item_with (λ row. (row_sums row).weight) item_weight k (item_with ps)
    one k [] = refl
    one k (p ∷ ps) = refl

pub pairs_is : (kept : Kept) → IsWhole kept → kept.sums.pairs ≡ pair_count (items_kept kept)
pairs_is kept whole = whole.pairs ∙ sym (sum-seen item_with (λ row. (row_sums row).pairs) (λ item. length item.1) kept.rows one)
  where
    one : (k : List ℕ) (ps : List Pair) → (row_sums (k, ps)).pairs ≡ shown_weight item_with (λ row. (row_sums row).pairs) (λ item. length item.1) k (item_with ps)
    one k [] = refl
    one k (p ∷ ps) = refl

-- what a look-up among the rows finds, as an item
pub item_found : (rows : ItemEntries) (name : List ℕ) (o : Option (List Pair)) → IsRising text_cmp rows → o ≡ found text_cmp rows name → seen_of item_with o ≡ found text_cmp (seen item_with rows) name
item_found rows name o s e = ap (seen_of item_with) e ∙ sym (found-seen item_with rows name s)

pub pairs_kept : (kept : Kept) (name : List ℕ) → IsRising text_cmp kept.rows → pairs_at (items_kept kept) name ≡ pairs_at kept.rows name
pairs_kept kept name s = ap (λ o. unwrap_or o []) (found-seen item_with kept.rows name s) ∙ given (found text_cmp kept.rows name)
  where
    given : (o : Option (List Pair)) → unwrap_or (seen_of item_with o) [] ≡ unwrap_or o []
    given None = refl
    given (Some []) = refl
    given (Some (p ∷ ps)) = refl

pub held_as : (items : ItemEntries) (name : List ℕ) (o : Option (List Pair)) → o ≡ found text_cmp items name → cond (is_some o) (Some name) None ≡ held_text items name
held_as items name o e = ap (λ x. cond (is_some x) (Some name) None) e
