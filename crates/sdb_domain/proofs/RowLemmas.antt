-- A row's part that an edit touches, exchanged in place: what the edit leaves, and that it can be taken back.
use Rattle.std.proofs.Common.{◌≡◌, ℕ, ◌+◌, ◌≤◌, Bool, cond, List, [], Option, Some, None, unwrap_or, refl, sym, ap, ◌∙◌, subst, length, arith, is_eq, fold}
use Rattle.std.specs.List.Sorted.{IsStrictlySortedBy}
use Rattle.std.specs.Map.{remove_entry, set_value}
use Rattle.std.specs.BTreeMap.{is_at, insert_entry}
use Rattle.std.proofs.lemmas.Cmp.{nat_list_cmp_total, tied_itself}
use Rattle.std.proofs.lemmas.Map.Lookups.{exact_bytes}
use Rattle.sdb_base.specs.Texts.{text_cmp}
use Rattle.sdb_base.specs.Entries.{found}
use Rattle.sdb_base.proofs.EntryLemmas.{found-insert}
use Rattle.sdb_pairs.specs.declared.pair.Pair.{Pair}
use Rattle.sdb_pairs.specs.declared.op.Op.{Op}
use Rattle.sdb_pairs.specs.Accounts.{ItemEntries, pairs_at}
use Rattle.sdb_pairs.specs.Pairs.{pair_cmp, with_pair, merged}
use Rattle.sdb_pairs.specs.Parts.{is_touched, touched, without, exchanged, ExchangeKept, taken_back}
use Rattle.sdb_pairs.proofs.PartLemmas.{part_merged, others_merged, exchange_is, back_is, fits}
use Rattle.sdb_pairs.proofs.PairLemmas.{rising_merged}
use Rattle.sdb_domain.specs.declared.sums.Sums.{Sums}
use Rattle.sdb_domain.specs.Held.{Kept, IsWhole}
use Rattle.sdb_domain.specs.Names.{NameCounts, count_of, presence, Recounts}
use Rattle.sdb_domain.specs.Sums.{row_sums, has_pairs, has_left, exchanged as sums_exchanged, sums_after}
use Rattle.sdb_domain.specs.Undo.{RowExchanges, row_back, HasRoom}
use Rattle.sdb_domain.proofs.EntryViews.{back_inserted, weight_within}
use Rattle.sdb_domain.proofs.PartSums.{part_within, part_counts, left_same, sums_same}

module _ (kept : Kept) (name : List ℕ) (ops : List Op) (whole : IsWhole kept) (s : IsStrictlySortedBy pair_cmp (pairs_at kept.rows name)) where
  -- no name is counted in the part more often than in all
  pub part_counted : (q : List ℕ) → presence q (touched (pairs_at kept.rows name) ops) ≤ count_of kept.names.counts q
  part_counted q =
      let within = weight_within nat_list_cmp_total exact_bytes (λ row. presence q row.1) [] kept.rows name refl in
      let part = part_within (is_touched ops) q (pairs_at kept.rows name) in
      let was = whole.counts q in
      omega arith

  pub part_recounts : (now : NameCounts) → Recounts (touched (pairs_at kept.rows name) ops) (merged (touched (pairs_at kept.rows name) ops) ops) kept.names.counts now
      → Recounts (pairs_at kept.rows name) (merged (pairs_at kept.rows name) ops) kept.names.counts now
  part_recounts now h q =
      part_counts (is_touched ops) q (pairs_at kept.rows name) (merged (pairs_at kept.rows name) ops) (count_of kept.names.counts q) (count_of now q)
      (sym (others_merged (pairs_at kept.rows name) ops s))
      (h q ∙ ap (λ l. count_of kept.names.counts q + presence q l) (part_merged (pairs_at kept.rows name) ops s))

  pub part_sums_after : sums_after kept.sums name (pairs_at kept.rows name) (touched (pairs_at kept.rows name) ops) (merged (touched (pairs_at kept.rows name) ops) ops)
      ≡ sums_exchanged kept.sums (row_sums (name, pairs_at kept.rows name)) (row_sums (name, merged (pairs_at kept.rows name) ops))
  part_sums_after =
      let pairs = weight_within nat_list_cmp_total exact_bytes (λ row. (row_sums row).pairs) [] kept.rows name refl in
      let values = weight_within nat_list_cmp_total exact_bytes (λ row. (row_sums row).value_bytes) [] kept.rows name refl in
      let weights = weight_within nat_list_cmp_total exact_bytes (λ row. (row_sums row).weight) [] kept.rows name refl in
      ap (sums_after kept.sums name (pairs_at kept.rows name) (touched (pairs_at kept.rows name) ops)) (part_merged (pairs_at kept.rows name) ops s)
      ∙ sums_same (is_touched ops) (pairs_at kept.rows name) (merged (pairs_at kept.rows name) ops) (sym (others_merged (pairs_at kept.rows name) ops s)) kept.sums name
      (subst (λ n. (row_sums (name, pairs_at kept.rows name)).pairs ≤ n) (sym whole.pairs) pairs)
      (subst (λ n. (row_sums (name, pairs_at kept.rows name)).value_bytes ≤ n) (sym whole.value_bytes) values)
      (subst (λ n. (row_sums (name, pairs_at kept.rows name)).weight ≤ n) (sym whole.weight) weights)

  pub part_left : has_left (pairs_at kept.rows name) (touched (pairs_at kept.rows name) ops) (merged (touched (pairs_at kept.rows name) ops) ops) ≡ has_pairs (merged (pairs_at kept.rows name) ops)
  part_left =
      ap (has_left (pairs_at kept.rows name) (touched (pairs_at kept.rows name) ops)) (part_merged (pairs_at kept.rows name) ops s)
      ∙ left_same (is_touched ops) (pairs_at kept.rows name) (merged (pairs_at kept.rows name) ops) (sym (others_merged (pairs_at kept.rows name) ops s))

  here : (old : ItemEntries) (new : List Pair) → found text_cmp (insert_entry text_cmp old name new) name ≡ Some new
  here old new = found-insert nat_list_cmp_total old name name new ∙ ap (λ r. cond (is_eq r) (Some new) (found text_cmp old name)) (tied_itself nat_list_cmp_total name)

  module _ (rows : ItemEntries) where
    -- the row has what the edit leaves of it
    pub rows_are : (e : Option ExchangeKept) → RowExchanges kept.rows rows name (touched (pairs_at kept.rows name) ops) (merged (touched (pairs_at kept.rows name) ops) ops) e
        → rows ≡ insert_entry text_cmp kept.rows name (merged (pairs_at kept.rows name) ops)
    rows_are None h =
        let none : pairs_at kept.rows name ≡ [] = ap (λ o. unwrap_or o []) h.0 in
        h.1 ∙ ap (λ l. insert_entry text_cmp kept.rows name (merged l ops)) (ap (λ l. touched l ops) none ∙ sym none)
    rows_are (Some e) h =
        let is : h.row ≡ pairs_at kept.rows name = sym (ap (λ o. unwrap_or o []) h.was_there) in
        h.made
        ∙ ap (insert_entry text_cmp kept.rows name)
        (ap (λ l. exchanged l (touched (pairs_at kept.rows name) ops) (merged (touched (pairs_at kept.rows name) ops) ops)) is ∙ exchange_is (pairs_at kept.rows name) ops s)

    pub rows_back : (e : Option ExchangeKept) → RowExchanges kept.rows rows name (touched (pairs_at kept.rows name) ops) (merged (touched (pairs_at kept.rows name) ops) ops) e
        → row_back rows name e ≡ kept.rows
    rows_back None h = ap (remove_entry (is_at (text_cmp name))) h.1 ∙ back_inserted kept.rows name whole.rows_rise (merged (touched (pairs_at kept.rows name) ops) ops) None (sym h.0)
    rows_back (Some e) h =
        let is : h.row ≡ pairs_at kept.rows name = sym (ap (λ o. unwrap_or o []) h.was_there) in
        let all = rows_are (Some e) h in
        let new : unwrap_or (found text_cmp rows name) [] ≡ merged (pairs_at kept.rows name) ops =
        ap (λ o. unwrap_or o []) (ap (λ l. found text_cmp l name) all ∙ here kept.rows (merged (pairs_at kept.rows name) ops)) in
        let row : taken_back (unwrap_or (found text_cmp rows name) []) e ≡ h.row =
        (λ i. fold with_pair (h.out_is i) (without (new i) (h.put_is i))) ∙ back_is (pairs_at kept.rows name) ops s ∙ sym is in
        (λ i. set_value (is_at (text_cmp name)) (all i) (row i))
        ∙ back_inserted kept.rows name whole.rows_rise (merged (pairs_at kept.rows name) ops) (Some h.row) (sym h.was_there)

    pub rows_room : (e : Option ExchangeKept) → RowExchanges kept.rows rows name (touched (pairs_at kept.rows name) ops) (merged (touched (pairs_at kept.rows name) ops) ops) e
        → HasRoom (found text_cmp rows name) e
    rows_room None h = tt
    rows_room (Some e) h =
        let is : h.row ≡ pairs_at kept.rows name = sym (ap (λ o. unwrap_or o []) h.was_there) in
        let new : found text_cmp rows name ≡ Some (merged (pairs_at kept.rows name) ops) = ap (λ l. found text_cmp l name) (rows_are (Some e) h) ∙ here kept.rows (merged (pairs_at kept.rows name) ops) in
        let out = ap length h.out_is in
        let row = ap length is in
        let put = ap (λ l. length (without (merged (pairs_at kept.rows name) ops) l)) h.put_is in
        let few = fits (pairs_at kept.rows name) ops s in
        let room = h.room in
        let enough : length e.out + length (without (merged (pairs_at kept.rows name) ops) e.put) ≤ e.room = omega arith in
        subst (λ o. HasRoom o (Some e)) (sym new) enough

-- what an edit of a row's part makes of a domain
pub record RowEdited (kept : Kept) (name : List ℕ) (ops : List Op) (rows : ItemEntries) (now : NameCounts) (sums : Sums) (e : Option ExchangeKept) : Type 0 where
  pub rises : IsStrictlySortedBy pair_cmp (merged (pairs_at kept.rows name) ops)
  pub are : rows ≡ insert_entry text_cmp kept.rows name (merged (pairs_at kept.rows name) ops)
  pub recounts : Recounts (pairs_at kept.rows name) (merged (pairs_at kept.rows name) ops) kept.names.counts now
  pub sums_are : sums ≡ sums_exchanged kept.sums (row_sums (name, pairs_at kept.rows name)) (row_sums (name, merged (pairs_at kept.rows name) ops))
  pub back_are : row_back rows name e ≡ kept.rows
  pub has_room : HasRoom (found text_cmp rows name) e

module _ (kept : Kept) (name : List ℕ) (ops : List Op) (whole : IsWhole kept) (old out put : List Pair) (old_is : old ≡ pairs_at kept.rows name) (out_is : out ≡ touched old ops) where
  out_all : out ≡ touched (pairs_at kept.rows name) ops
  out_all = out_is ∙ ap (λ l. touched l ops) old_is

  pub counted_out : (outs : List Pair) → IsStrictlySortedBy pair_cmp old → outs ≡ out → (q : List ℕ) → presence q outs ≤ count_of kept.names.counts q
  counted_out outs s is = subst (λ l. (q : List ℕ) → presence q l ≤ count_of kept.names.counts q) (sym (is ∙ out_all)) (part_counted kept name ops whole (subst (IsStrictlySortedBy pair_cmp) old_is s))

  put_all : put ≡ merged out ops → put ≡ merged (touched (pairs_at kept.rows name) ops) ops
  put_all put_is = put_is ∙ ap (λ l. merged l ops) out_all

  -- whether the edit leaves pairs
  pub row_left : (put_is : put ≡ merged out ops) (s : IsStrictlySortedBy pair_cmp old) (olds outs puts : List Pair) (a : olds ≡ old) (b : outs ≡ out) (c : puts ≡ put)
      (left : Bool) → left ≡ has_left olds outs puts → left ≡ has_pairs (merged (pairs_at kept.rows name) ops)
  row_left put_is s olds outs puts a b c left is =
      is ∙ (λ i. has_left ((a ∙ old_is) i) ((b ∙ out_all) i) ((c ∙ put_all put_is) i)) ∙ part_left kept name ops whole (subst (IsStrictlySortedBy pair_cmp) old_is s)

  pub row_edited : (put_is : put ≡ merged out ops) (s : IsStrictlySortedBy pair_cmp old) (olds outs puts outs2 puts2 : List Pair) (a : olds ≡ old) (b : outs ≡ out) (c : puts ≡ put) (b2 : outs2 ≡ out) (c2 : puts2 ≡ put)
      (rows : ItemEntries) (now : NameCounts) (sums : Sums) (e : Option ExchangeKept)
      → Recounts outs2 puts2 kept.names.counts now → sums ≡ sums_after kept.sums name olds outs puts → RowExchanges kept.rows rows name out put e → RowEdited kept name ops rows now sums e
  row_edited put_is s olds outs puts outs2 puts2 a b c b2 c2 rows now sums e counts sum exchanges =
      let rises : IsStrictlySortedBy pair_cmp (pairs_at kept.rows name) = subst (IsStrictlySortedBy pair_cmp) old_is s in
      let whole_exchange : RowExchanges kept.rows rows name (touched (pairs_at kept.rows name) ops) (merged (touched (pairs_at kept.rows name) ops) ops) e =
      subst (λ l. RowExchanges kept.rows rows name l (merged (touched (pairs_at kept.rows name) ops) ops) e) out_all (subst (λ l. RowExchanges kept.rows rows name out l e) (put_all put_is) exchanges) in
      let part_count : Recounts (touched (pairs_at kept.rows name) ops) (merged (touched (pairs_at kept.rows name) ops) ops) kept.names.counts now =
      subst (λ l. Recounts l (merged (touched (pairs_at kept.rows name) ops) ops) kept.names.counts now) (b2 ∙ out_all) (subst (λ l. Recounts outs2 l kept.names.counts now) (c2 ∙ put_all put_is) counts) in
      record {
        rises = rising_merged (pairs_at kept.rows name) ops rises;
        are = rows_are kept name ops whole rises rows e whole_exchange;
        recounts = part_recounts kept name ops whole rises now part_count;
        sums_are = sum ∙ (λ i. sums_after kept.sums name ((a ∙ old_is) i) ((b ∙ out_all) i) ((c ∙ put_all put_is) i)) ∙ part_sums_after kept name ops whole rises;
        back_are = rows_back kept name ops whole rises rows e whole_exchange;
        has_room = rows_room kept name ops whole rises rows e whole_exchange;
      }
