-- The items of a domain while writes go over them.
use Rattle.std.proofs.Common.{◌≡◌, ℕ, ◌+◌, false, cond, is_eq, List, [], ◌∷◌, map, fold, length, Option, Some, None, IfSome, refl, sym, ap, ◌∙◌, subst, unwrap_or, arith}
use Rattle.std.specs.BTreeMap.{is_at}
use Rattle.std.specs.List.{AllByRecursion, sum_by}
use Rattle.std.specs.List.Sorted.{IsStrictlySortedBy}
use Rattle.std.specs.Str.{bytes_eq}
use Rattle.std.proofs.lemmas.Cmp.{nat_list_cmp_total, nat_list_eq_equiv, tied_itself}
use Rattle.std.proofs.lemmas.Map.Keys.{IsDistinct-head, IsDistinct-tail}
use Rattle.std.proofs.lemmas.Map.Lookups.{exact_bytes}
use Rattle.std.proofs.lemmas.Map.Text.{is_eq-slice_cmp}
use Rattle.std.proofs.lemmas.Map.Views.{IfSome-lookup_from_All}
use Rattle.sdb_base.specs.Texts.{text_cmp}
use Rattle.sdb_base.specs.Entries.{found}
use Rattle.sdb_base.proofs.EntryLemmas.{found-placed, rising-placed, values-placed}
use Rattle.sdb_pairs.specs.declared.pair.Pair.{Pair}
use Rattle.sdb_pairs.specs.Accounts.{ItemEntries, pairs_at, IsItem, AreItems}
use Rattle.sdb_pairs.specs.Changes.{item_with}
use Rattle.sdb_pairs.specs.Pairs.{pair_cmp, merged}
use Rattle.sdb_pairs.proofs.EditLemmas.{puts_are_edits, deletes_are_edits}
use Rattle.sdb_pairs.proofs.PairLemmas.{rising_merged}
use Rattle.sdb_pairs.proofs.StateLemmas.{pairs_at-rise}
use Rattle.sdb_domain.proofs.EntryViews.{adds, sum_placed}
use Rattle.sdb_write.specs.Changes.{replaced_names, ops_of}
use Rattle.sdb_write.specs.ItemWrites.{ItemWrite, put_into, delete_from, name_of, left_of, with_pairs, item_written, items_written, NamesApart}
use Rattle.sdb_write.specs.Limits.{first_of, item_above, items_above}
use Rattle.sdb_write.specs.Totals.{item_adds, writes_above}
use Rattle.sdb_write.proofs.OnceLemmas.{is_among-replaced_names}

-- the operations of a write leave what it leaves
pub merged-ops_of : (w : ItemWrite) (old : List Pair) → IsStrictlySortedBy pair_cmp old → merged old (ops_of w) ≡ left_of w old
merged-ops_of (put_into name puts) old s = puts_are_edits old puts (replaced_names puts) s (λ q. is_among-replaced_names q puts)
merged-ops_of (delete_from name parts) old s = deletes_are_edits old parts s

-- ---- an item written

rising_left : (w : ItemWrite) (old : List Pair) → IsStrictlySortedBy pair_cmp old → IsStrictlySortedBy pair_cmp (left_of w old)
rising_left w old s = subst (IsStrictlySortedBy pair_cmp) (merged-ops_of w old s) (rising_merged old (ops_of w) s)

is_item : (pairs : List Pair) → IsStrictlySortedBy pair_cmp pairs → IfSome (item_with pairs) IsItem
is_item [] s = tt
is_item (p ∷ ps) s = record { some = λ e. absurd (not_none e); rising = s }
  where
    not_none : (p ∷ ps) ≡ [] → ⊥
    not_none e = cc

are_items-with : (items : ItemEntries) (name : List ℕ) (ps : List Pair) → AreItems items → IsStrictlySortedBy pair_cmp ps → AreItems (with_pairs items name ps)
are_items-with items name ps are s = record {
  rising = rising-placed nat_list_cmp_total items name (item_with ps) are.rising;
  each = values-placed nat_list_cmp_total IsItem items name (item_with ps) are.each (is_item ps s);
}

pub are_items-written : (old items : ItemEntries) (w : ItemWrite) → AreItems old → AreItems items → AreItems (item_written old items w)
are_items-written old items w was are =
    are_items-with items (name_of w) (left_of w (pairs_at old (name_of w))) are (rising_left w (pairs_at old (name_of w)) (pairs_at-rise old (name_of w) was))

-- an item is what is found under its name
item_is : (o : Option (List Pair)) → IfSome o IsItem → item_with (unwrap_or o []) ≡ o
item_is None h = refl
item_is (Some []) h = absurd (h.some refl)
item_is (Some (p ∷ ps)) h = refl

item_found : (items : ItemEntries) (name : List ℕ) → AreItems items → item_with (pairs_at items name) ≡ found text_cmp items name
item_found items name h = item_is (found text_cmp items name) (IfSome-lookup_from_All IsItem (is_at (text_cmp name)) items h.each)

pairs_with : (ps : List Pair) → unwrap_or (item_with ps) [] ≡ ps
pairs_with [] = refl
pairs_with (p ∷ ps) = refl

-- the pairs under the name are those written there
pairs_at-same : (items : ItemEntries) (name : List ℕ) (ps : List Pair) → AreItems items → pairs_at (with_pairs items name ps) name ≡ ps
pairs_at-same items name ps are =
    ap (λ o. unwrap_or o []) (found-placed nat_list_cmp_total items name name (item_with ps) are.rising
    ∙ ap (λ r. cond (is_eq r) (item_with ps) (found text_cmp items name)) (tied_itself nat_list_cmp_total name))
    ∙ pairs_with ps

-- the pairs under another name stay
pairs_at-other : (items : ItemEntries) (name other : List ℕ) (ps : List Pair) → AreItems items → bytes_eq name other ≡ false → pairs_at (with_pairs items name ps) other ≡ pairs_at items other
pairs_at-other items name other ps h apart =
    ap (λ o. unwrap_or o []) (found-placed nat_list_cmp_total items name other (item_with ps) h.rising
    ∙ ap (λ b. cond b (item_with ps) (found text_cmp items other)) (is_eq-slice_cmp other name ∙ nat_list_eq_equiv.symm other name ∙ apart))

-- ---- writes one after the other

-- the items that the writes name have the pairs that they had before
abbrev pub AreAsBefore : ItemEntries → ItemEntries → List ItemWrite → Type 0
AreAsBefore old items writes = AllByRecursion (λ w. pairs_at items (name_of w) ≡ pairs_at old (name_of w)) writes

as_before-more : (old items : ItemEntries) (name : List ℕ) (ps : List Pair) (writes : List ItemWrite) → AreItems items → AllByRecursion (λ other. bytes_eq name other ≡ false) (map name_of writes)
    → AreAsBefore old items writes → AreAsBefore old (with_pairs items name ps) writes
as_before-more old items name ps [] h apart same = tt
as_before-more old items name ps (w ∷ ws) h apart same = (pairs_at-other items name (name_of w) ps h apart.0 ∙ same.0, as_before-more old items name ps ws h apart.1 same.1)

pub as_before-all : (items : ItemEntries) (writes : List ItemWrite) → AreAsBefore items items writes
as_before-all items [] = tt
as_before-all items (w ∷ ws) = (refl, as_before-all items ws)

pub as_before-next : (old items : ItemEntries) (w : ItemWrite) (ws : List ItemWrite) → AreItems items → NamesApart (w ∷ ws) → AreAsBefore old items (w ∷ ws) → AreAsBefore old (item_written old items w) ws
as_before-next old items w ws are apart same =
    as_before-more old items (name_of w) (left_of w (pairs_at old (name_of w))) ws are (IsDistinct-head bytes_eq (name_of w) (map name_of ws) apart) same.1

pub names_apart-tail : (w : ItemWrite) (ws : List ItemWrite) → NamesApart (w ∷ ws) → NamesApart ws
names_apart-tail w ws apart = IsDistinct-tail bytes_eq (name_of w) (map name_of ws) apart

module _ (old : ItemEntries) (was : AreItems old) where
  -- an item that no further write names stays
  untouched : (ws : List ItemWrite) (items : ItemEntries) (name : List ℕ) → AreItems items → AllByRecursion (λ other. bytes_eq name other ≡ false) (map name_of ws)
      → pairs_at (fold (item_written old) items ws) name ≡ pairs_at items name
  untouched [] items name are apart = refl
  untouched (w ∷ ws) items name are apart =
      untouched ws (item_written old items w) name (are_items-written old items w was are) apart.1
      ∙ pairs_at-other items (name_of w) name (left_of w (pairs_at old (name_of w))) are (nat_list_eq_equiv.symm (name_of w) name ∙ apart.0)

  -- each named item has in the end what its write leaves
  pub pairs_left : (w : ItemWrite) (ws : List ItemWrite) (items : ItemEntries) → AreItems items → NamesApart (w ∷ ws)
      → pairs_at (fold (item_written old) (item_written old items w) ws) (name_of w) ≡ left_of w (pairs_at old (name_of w))
  pairs_left w ws items are apart =
      untouched ws (item_written old items w) (name_of w) (are_items-written old items w was are) (IsDistinct-head bytes_eq (name_of w) (map name_of ws) apart)
      ∙ pairs_at-same items (name_of w) (left_of w (pairs_at old (name_of w))) are

  items_above-fold : (ws : List ItemWrite) (items : ItemEntries) → AreItems items → NamesApart ws → items_above (fold (item_written old) items ws) (map name_of ws) ≡ writes_above old ws
  items_above-fold [] items are apart = refl
  items_above-fold (w ∷ ws) items are apart =
      ap (λ ps. first_of (item_above (length ps)) (items_above (fold (item_written old) (item_written old items w) ws) (map name_of ws))) (pairs_left w ws items are apart)
      ∙ ap (first_of (item_above (length (left_of w (pairs_at old (name_of w)))))) (items_above-fold ws (item_written old items w) (are_items-written old items w was are) (names_apart-tail w ws apart))

  -- the first item with too many pairs is that of the first write that leaves too many
  pub items_above-written : (ws : List ItemWrite) → NamesApart ws → items_above (items_written old ws) (map name_of ws) ≡ writes_above old ws
  items_above-written ws apart = items_above-fold ws old was apart

-- ---- sums

module _ (f : List ℕ × List Pair → ℕ) where
  adds_is : (name : List ℕ) (ps : List Pair) → adds nat_list_cmp_total exact_bytes f name (item_with ps) ≡ item_adds f name ps
  adds_is name [] = refl
  adds_is name (p ∷ ps) = refl

  -- an item written moves a sum by what it has and had
  pub sum-written : (old items : ItemEntries) (w : ItemWrite) → AreItems items → pairs_at items (name_of w) ≡ pairs_at old (name_of w)
      → sum_by f (item_written old items w) + item_adds f (name_of w) (pairs_at old (name_of w)) ≡ sum_by f items + item_adds f (name_of w) (left_of w (pairs_at old (name_of w)))
  sum-written old items w are same =
      let key = name_of w in
      let left = left_of w (pairs_at old key) in
      let one = sum_placed nat_list_cmp_total exact_bytes f items key (item_with left) are.rising in
      let before : adds nat_list_cmp_total exact_bytes f key (found text_cmp items key) ≡ item_adds f key (pairs_at old key) =
      ap (adds nat_list_cmp_total exact_bytes f key) (sym (item_found items key are) ∙ ap item_with same) ∙ adds_is key (pairs_at old key) in
      let after = adds_is key left in
      omega (arith, one, before, after)
