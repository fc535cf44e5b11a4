-- What is kept of a domain stays right when a row is written, and when what is hidden is swept.
use Rattle.std.proofs.Common.{◌≡◌, ℕ, ◌+◌, ◌-◌, ◌≤◌, Bool, true, false, not, ◌&&◌, Decides, cond, List, [], ◌∷◌, Option, Some, None, refl, sym, ap, ◌∙◌, subst, arith, All, true≢false, is_eq}
use Rattle.std.specs.List.{sum_by}
use Rattle.std.specs.List.Sorted.{IsStrictlySortedBy}
use Rattle.std.specs.Map.{remove_entry, values_of}
use Rattle.std.specs.BTreeMap.{is_at, insert_entry}
use Rattle.std.proofs.lemmas.Cmp.{nat_list_cmp_total, tied_itself}
use Rattle.std.proofs.lemmas.List.Elements.{All-nil, All-cons, All-head, All-tail}
use Rattle.std.proofs.lemmas.Map.Lookups.{exact_bytes}
use Rattle.sdb_base.specs.Texts.{text_cmp}
use Rattle.sdb_base.specs.Entries.{found, placed, IsRising}
use Rattle.sdb_base.proofs.EntryLemmas.{found-insert, rising-placed, same_entries, values-placed}
use Rattle.sdb_pairs.specs.declared.pair.Pair.{Pair}
use Rattle.sdb_pairs.specs.declared.op.Op.{Op}
use Rattle.sdb_pairs.specs.Accounts.{ItemEntries, pairs_at, IsItem, AreItems}
use Rattle.sdb_pairs.specs.Changes.{item_with, edited}
use Rattle.sdb_pairs.specs.Pairs.{pair_cmp, merged}
use Rattle.sdb_domain.specs.declared.held.RowWas.{RowWas}
use Rattle.sdb_domain.specs.declared.names.Names.{Names}
use Rattle.sdb_domain.specs.declared.names.NameWas.{NameWas}
use Rattle.sdb_domain.specs.declared.sums.Sums.{Sums}
use Rattle.sdb_domain.specs.Held.{Kept, items_kept, IsWhole, IsClean}
use Rattle.sdb_domain.specs.Keyed.{unwound, seen, with_shown, unchanged, removed}
use Rattle.sdb_domain.specs.Names.{count_of, presence, Recounts, IsTallied, ChangesLogged, is_logged, name_undone, SweepsNames}
use Rattle.sdb_domain.specs.Sums.{row_sums, has_pairs, exchanged}
use Rattle.sdb_domain.specs.Undo.{row_back, row_undone, ChangesOnly, SweepsRow, Sweeps}
use Rattle.sdb_domain.proofs.EntryViews.{sum_inserted, weight_within, sum_removed, adds}
use Rattle.sdb_domain.proofs.ItemSums.{pairs_kept}
use Rattle.sdb_domain.proofs.NameLemmas.{swept_hidden, rising_swept, seen_swept}
use Rattle.sdb_domain.proofs.SeenLemmas.{seen_of, found-seen, rising-seen, seen-put}

-- ---- a row written

-- no name is counted in a row more often than in all
pub counted_within : (kept : Kept) (name : List ℕ) → IsWhole kept → (q : List ℕ) → presence q (pairs_at kept.rows name) ≤ count_of kept.names.counts q
counted_within kept name whole q =
    let within = weight_within nat_list_cmp_total exact_bytes (λ row. presence q row.1) [] kept.rows name refl in
    let was = whole.counts q in
    omega arith

-- whether pairs are left tells whether the row is hidden
none_left : (pairs : List Pair) (row : Option (List Pair)) → row ≡ Some pairs → Decides (not (has_pairs pairs)) (row ≡ Some [])
none_left [] row e = (λ h. e, λ h. refl)
none_left (p ∷ ps) row e = (λ h. absurd (true≢false (sym h)), λ h. absurd (other (sym e ∙ h)))
  where
    other : Some (p ∷ ps) ≡ Some [] → ⊥
    other h = cc

module _ (kept : Kept) (name : List ℕ) (new : List Pair) (rows : ItemEntries) (names : Names) (sums : Sums) (whole : IsWhole kept)
    (rows_are : rows ≡ insert_entry text_cmp kept.rows name new) (rises : IsStrictlySortedBy pair_cmp new)
    (recounts : Recounts (pairs_at kept.rows name) new kept.names.counts names.counts) (tally : IsTallied kept.names → IsTallied names)
    (sums_are : sums ≡ exchanged kept.sums (row_sums (name, pairs_at kept.rows name)) (row_sums (name, new))) where
  -- a sum over rows, to which a row without pairs adds nothing
  exchanged_sum : (f : List ℕ × List Pair → ℕ) (sum : ℕ) → f (name, []) ≡ 0 → sum ≡ sum_by f kept.rows
      → sum - f (name, pairs_at kept.rows name) + f (name, new) ≡ sum_by f rows
  exchanged_sum f sum z e =
      let moved = sum_inserted nat_list_cmp_total exact_bytes f [] kept.rows name new z whole.rows_rise in
      let within = weight_within nat_list_cmp_total exact_bytes f [] kept.rows name z in
      let all : sum_by f rows ≡ sum_by f (insert_entry text_cmp kept.rows name new) = ap (sum_by f) rows_are in
      omega arith

  counts_after : (q : List ℕ) → count_of names.counts q ≡ sum_by (λ row. presence q row.1) rows
  counts_after q =
      let moved = sum_inserted nat_list_cmp_total exact_bytes (λ row. presence q row.1) [] kept.rows name new refl whole.rows_rise in
      let all : sum_by (λ row. presence q row.1) rows ≡ sum_by (λ row. presence q row.1) (insert_entry text_cmp kept.rows name new) = ap (sum_by (λ row. presence q row.1)) rows_are in
      let was = whole.counts q in
      let h = recounts q in
      omega arith

  pub whole_edited : IsWhole (record { rows = rows; names = names; sums = sums })
  whole_edited = record {
    rows_rise = subst (IsRising text_cmp) (sym rows_are) (rising-placed nat_list_cmp_total kept.rows name (Some new) whole.rows_rise);
    pairs_rise = subst (λ l. All (IsStrictlySortedBy pair_cmp) (values_of l)) (sym rows_are) (values-placed nat_list_cmp_total (IsStrictlySortedBy pair_cmp) kept.rows name (Some new) whole.pairs_rise rises);
    counts = counts_after;
    tallied = tally whole.tallied;
    items = ap (λ (s : Sums). s.items) sums_are ∙ exchanged_sum (λ row. (row_sums row).items) kept.sums.items refl whole.items;
    item_bytes = ap (λ (s : Sums). s.item_bytes) sums_are ∙ exchanged_sum (λ row. (row_sums row).item_bytes) kept.sums.item_bytes refl whole.item_bytes;
    pairs = ap (λ (s : Sums). s.pairs) sums_are ∙ exchanged_sum (λ row. (row_sums row).pairs) kept.sums.pairs refl whole.pairs;
    value_bytes = ap (λ (s : Sums). s.value_bytes) sums_are ∙ exchanged_sum (λ row. (row_sums row).value_bytes) kept.sums.value_bytes refl whole.value_bytes;
    weight = ap (λ (s : Sums). s.weight) sums_are ∙ exchanged_sum (λ row. (row_sums row).weight) kept.sums.weight refl whole.weight;
  }

  pub items_edited : (ops : List Op) → new ≡ merged (pairs_at kept.rows name) ops → seen item_with rows ≡ edited (items_kept kept) name ops
  items_edited ops is =
      ap (seen item_with) rows_are
      ∙ seen-put item_with kept.rows name new whole.rows_rise
      ∙ ap (λ ps. placed text_cmp (items_kept kept) name (item_with ps)) (is ∙ ap (λ o. merged o ops) (sym (pairs_kept kept name whole.rows_rise)))

  pub edit_back : (was : RowWas) → row_back rows was.name was.exchange ≡ kept.rows → was.sums ≡ kept.sums → unwound name_undone names was.names.items ≡ kept.names
      → row_undone (record { rows = rows; names = names; sums = sums }) was ≡ kept
  edit_back was back_rows same_sums back_names = λ i. record { rows = back_rows i; names = back_names i; sums = same_sums i }

  row_is : (q : List ℕ) → q ≡ name → found text_cmp rows q ≡ Some new
  row_is q is =
      (λ i. found text_cmp (rows_are i) (is i))
      ∙ found-insert nat_list_cmp_total kept.rows name name new
      ∙ ap (λ r. cond (is_eq r) (Some new) (found text_cmp kept.rows name)) (tied_itself nat_list_cmp_total name)

  pub edit_only : (was : RowWas) (left : Bool) → was.name ≡ name → was.emptied ≡ not left → left ≡ has_pairs new → ChangesLogged kept.names.counts names.counts was.names.items → ChangesOnly kept (record { rows = rows; names = names; sums = sums }) was
  edit_only was left name_is noted left_is logged = record {
    emptied = subst (λ b. Decides b (found text_cmp rows was.name ≡ Some [])) (sym (noted ∙ ap not left_is)) (none_left new (found text_cmp rows was.name) (row_is was.name name_is));
    rows = λ q off. ap (λ l. found text_cmp l q) rows_are ∙ found-insert nat_list_cmp_total kept.rows name q new ∙ ap (λ b. cond b (Some new) (found text_cmp kept.rows q)) (ap (is_at (text_cmp q)) (sym name_is) ∙ off);
    names = logged;
  }

-- ---- what is hidden, taken out

neither : (b : Bool) → (b && false) ≡ false
neither true = refl
neither false = refl

module _ (kept : Kept) (name : List ℕ) (rows : ItemEntries) (names : Names) (log : List NameWas) (whole : IsWhole kept) (emptied : Bool) (swept : SweepsRow emptied kept.rows rows name) (sweeps : SweepsNames kept.names names log) where
  unmoved : (f : List ℕ × List Pair → ℕ) → f (name, []) ≡ 0 → (b : Bool) → SweepsRow b kept.rows rows name → sum_by f kept.rows ≡ sum_by f rows
  unmoved f z false e = ap (sum_by f) (sym e)
  unmoved f z true (unchanged e lacks) = ap (sum_by f) (sym e)
  unmoved f z true (removed h e) =
      let removed = sum_removed nat_list_cmp_total exact_bytes f kept.rows name in
      let zero : adds nat_list_cmp_total exact_bytes f name (found text_cmp kept.rows name) ≡ 0 = ap (adds nat_list_cmp_total exact_bytes f name) h ∙ z in
      let all : sum_by f rows ≡ sum_by f (remove_entry (is_at (text_cmp name)) kept.rows) = ap (sum_by f) e in
      omega arith

  pairs_left : (b : Bool) → SweepsRow b kept.rows rows name → All (IsStrictlySortedBy pair_cmp) (values_of rows)
  pairs_left false e = subst (λ l. All (IsStrictlySortedBy pair_cmp) (values_of l)) (sym e) whole.pairs_rise
  pairs_left true (unchanged e lacks) = subst (λ l. All (IsStrictlySortedBy pair_cmp) (values_of l)) (sym e) whole.pairs_rise
  pairs_left true (removed h e) = subst (λ l. All (IsStrictlySortedBy pair_cmp) (values_of l)) (sym e) (values-placed nat_list_cmp_total (IsStrictlySortedBy pair_cmp) kept.rows name None whole.pairs_rise tt)

  rows_left : (b : Bool) → SweepsRow b kept.rows rows name → IsRising text_cmp rows
  rows_left false e = subst (IsRising text_cmp) (sym e) whole.rows_rise
  rows_left true s = rising_swept [] kept.rows rows name whole.rows_rise s

  pub whole_swept : IsWhole (record { rows = rows; names = names; sums = kept.sums })
  whole_swept = record {
    rows_rise = rows_left emptied swept;
    pairs_rise = pairs_left emptied swept;
    counts = λ q. sweeps.same q ∙ whole.counts q ∙ unmoved (λ row. presence q row.1) refl emptied swept;
    tallied = sweeps.tallied whole.tallied;
    items = whole.items ∙ unmoved (λ row. (row_sums row).items) refl emptied swept;
    item_bytes = whole.item_bytes ∙ unmoved (λ row. (row_sums row).item_bytes) refl emptied swept;
    pairs = whole.pairs ∙ unmoved (λ row. (row_sums row).pairs) refl emptied swept;
    value_bytes = whole.value_bytes ∙ unmoved (λ row. (row_sums row).value_bytes) refl emptied swept;
    weight = whole.weight ∙ unmoved (λ row. (row_sums row).weight) refl emptied swept;
  }

  pub items_swept : seen item_with rows ≡ items_kept kept
  items_swept = same emptied swept
    where
      same : (b : Bool) → SweepsRow b kept.rows rows name → seen item_with rows ≡ items_kept kept
      same false e = ap (seen item_with) e
      same true s = seen_swept item_with [] kept.rows rows name refl s

  -- a row that is hidden was hidden, and isn't one that was emptied
  hidden_left : (b : Bool) → SweepsRow b kept.rows rows name → (q : List ℕ) → found text_cmp rows q ≡ Some [] → (found text_cmp kept.rows q ≡ Some []) × ((is_at (text_cmp q) name && b) ≡ false)
  hidden_left false e q h = (ap (λ l. found text_cmp l q) (sym e) ∙ h, neither (is_at (text_cmp q) name))
  hidden_left true s q h = let r = swept_hidden [] kept.rows rows name whole.rows_rise s q h in (r.0, ap (λ b. b && true) r.1)

  pub row_swept : (was : RowWas) → was.name ≡ name → was.emptied ≡ emptied → was.names.items ≡ log → Sweeps kept (record { rows = rows; names = names; sums = kept.sums }) was
  row_swept was name_is emptied_is log_is = record {
    rows = λ q h. let r = hidden_left emptied swept q h in (r.0, (λ i. is_at (text_cmp q) (name_is i) && emptied_is i) ∙ r.1);
    names = subst (λ l. (q : List ℕ) → found text_cmp names.counts q ≡ Some 0 → (found text_cmp kept.names.counts q ≡ Some 0) × (is_logged q l ≡ false)) (sym log_is) sweeps.swept;
  }

-- ---- the items in order

front_item : (k : List ℕ) (ps : List Pair) (rest : ItemEntries) → IsStrictlySortedBy pair_cmp ps → All IsItem (values_of rest) → All IsItem (values_of (with_shown k (item_with ps) rest))
front_item k [] rest s each = each
front_item k (p ∷ ps) rest s each = All-cons IsItem (p ∷ ps) (values_of rest) (record { some = λ e. cc; rising = s }) each

shown_items : (rows : ItemEntries) → All (IsStrictlySortedBy pair_cmp) (values_of rows) → All IsItem (values_of (seen item_with rows))
shown_items [] h = All-nil IsItem
shown_items (e ∷ rows) h =
    front_item e.0 e.1 (seen item_with rows) (All-head (IsStrictlySortedBy pair_cmp) e.1 (values_of rows) h) (shown_items rows (All-tail (IsStrictlySortedBy pair_cmp) e.1 (values_of rows) h))

pub items_in_order : (kept : Kept) → IsWhole kept → AreItems (items_kept kept)
items_in_order kept whole = record { rising = rising-seen item_with kept.rows whole.rows_rise; each = shown_items kept.rows whole.pairs_rise }

-- where nothing is hidden, the rows are the items
pub clean_rows : (kept : Kept) → IsWhole kept → IsClean kept → kept.rows ≡ items_kept kept
clean_rows kept whole clean =
    same_entries nat_list_cmp_total exact_bytes kept.rows (items_kept kept) whole.rows_rise (rising-seen item_with kept.rows whole.rows_rise)
    (λ q. visible q (found text_cmp kept.rows q) refl ∙ sym (found-seen item_with kept.rows q whole.rows_rise))
  where
    visible : (q : List ℕ) (o : Option (List Pair)) → found text_cmp kept.rows q ≡ o → o ≡ seen_of item_with o
    visible q None e = refl
    visible q (Some []) e = absurd (clean.rows q e)
    visible q (Some (p ∷ ps)) e = refl
