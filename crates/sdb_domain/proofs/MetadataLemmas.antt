-- The numbers that describe a domain are those of its items.
use Rattle.std.proofs.Common.{◌≡◌, ℕ, zero, suc, ◌+◌, Bool, true, false, cond, ◌||◌, List, [], ◌∷◌, length, map, fold, Option, Some, None, refl, sym, ap, ◌∙◌, is_some, nat_lt, lt-ltb, arith, unwrap_or}
use Rattle.std.specs.Ordering.{eq_by_cmp}
use Rattle.std.specs.List.{sum_by, list_any}
use Rattle.std.specs.List.Sorted.{IsStrictlySortedBy}
use Rattle.std.specs.Map.{keys_of}
use Rattle.std.specs.BTreeMap.{is_at}
use Rattle.std.specs.BTreeSet.{insert_key}
use Rattle.std.proofs.lemmas.Cmp.{nat_list_cmp_total}
use Rattle.std.proofs.lemmas.List.Folds.{list_any-append}
use Rattle.std.proofs.lemmas.List.Sums.{sum_by-cons}
use Rattle.std.proofs.lemmas.Map.Lookups.{exact_bytes}
use Rattle.sdb_base.specs.Texts.{text_cmp}
use Rattle.sdb_pairs.specs.declared.pair.Pair.{Pair}
use Rattle.sdb_pairs.specs.Accounts.{ItemEntries}
use Rattle.sdb_pairs.specs.Changes.{item_with}
use Rattle.sdb_base.specs.Entries.{found}
use Rattle.sdb_pairs.specs.Pairs.{is_named}
use Rattle.sdb_base.proofs.KeyLemmas.{has, has-insert_key, same_members, rising-insert_key}
use Rattle.sdb_domain.specs.Held.{Kept, IsWhole, items_kept}
use Rattle.sdb_domain.specs.Keyed.{seen}
use Rattle.sdb_domain.specs.Metadata.{Describes}
use Rattle.sdb_domain.specs.Names.{count_of, presence, counted, names_counted}
use Rattle.sdb_domain.specs.Sums.{row_sums}
use Rattle.sdb_domain.specs.Weights.{names_of, all_pairs, value_bytes_of}
use Rattle.sdb_domain.proofs.ItemSums.{count_is, pairs_is}
use Rattle.sdb_domain.proofs.NameLemmas.{named_at}
use Rattle.sdb_domain.proofs.SeenLemmas.{seen_of, found-seen, rising-seen, sum-seen, shown_weight}

-- ---- the sums

item_bytes_is : (kept : Kept) → IsWhole kept → kept.sums.item_bytes ≡ sum_by (λ item. length item.0) (items_kept kept)
item_bytes_is kept whole = whole.item_bytes ∙ sym (sum-seen item_with (λ row. (row_sums row).item_bytes) (λ item. length item.0) kept.rows one)
  where
    one : (k : List ℕ) (ps : List Pair) → (row_sums (k, ps)).item_bytes ≡ shown_weight item_with (λ row. (row_sums row).item_bytes) (λ item. length item.0) k (item_with ps)
    one k [] = refl
    one k (p ∷ ps) = refl

value_bytes_is : (kept : Kept) → IsWhole kept → kept.sums.value_bytes ≡ sum_by (λ item. value_bytes_of item.1) (items_kept kept)
value_bytes_is kept whole = whole.value_bytes ∙ sym (sum-seen item_with (λ row. (row_sums row).value_bytes) (λ item. value_bytes_of item.1) kept.rows one)
  where
    one : (k : List ℕ) (ps : List Pair) → (row_sums (k, ps)).value_bytes ≡ shown_weight item_with (λ row. (row_sums row).value_bytes) (λ item. value_bytes_of item.1) k (item_with ps)
    one k [] = refl
    one k (p ∷ ps) = refl

-- ---- the names

abbrev is_name : List ℕ → List (List ℕ) → Bool
is_name q names = has nat_list_cmp_total q names

swap_or : (a b c : Bool) → (b || (a || c)) ≡ ((a || b) || c)
swap_or true true c = refl
swap_or true false c = refl
swap_or false true c = refl
swap_or false false c = refl

has_all : (q : List ℕ) (acc names : List (List ℕ)) → is_name q (fold (insert_key text_cmp) acc names) ≡ (is_name q acc || is_name q names)
has_all q acc [] = or_false (is_name q acc)
  where
    or_false : (a : Bool) → a ≡ (a || false)
    or_false true = refl
    or_false false = refl
has_all q acc (n ∷ ns) =
    has_all q (insert_key text_cmp acc n) ns
    ∙ ap (λ b. b || is_name q ns) (has-insert_key nat_list_cmp_total q n acc)
    ∙ sym (swap_or (eq_by_cmp text_cmp q n) (is_name q acc) (is_name q ns))

rising_all : (acc names : List (List ℕ)) → IsStrictlySortedBy text_cmp acc → IsStrictlySortedBy text_cmp (fold (insert_key text_cmp) acc names)
rising_all acc [] s = s
rising_all acc (n ∷ ns) s = rising_all (insert_key text_cmp acc n) ns (rising-insert_key nat_list_cmp_total n acc s)

none_rise : IsStrictlySortedBy text_cmp []
unfolding IsStrictlySortedBy
none_rise = tt

positive_sum : (b : Bool) (n : ℕ) → nat_lt 0 (cond b 1 0 + n) ≡ (b || nat_lt 0 n)
positive_sum true n = lt-ltb 0 (1 + n) (omega arith)
positive_sum false n = ap (nat_lt 0) zero_add
  where
    zero_add : 0 + n ≡ n
    zero_add = omega arith

has_named : (q : List ℕ) (ps : List Pair) → is_name q (map (λ p. p.name) ps) ≡ list_any (is_named q) ps
has_named q [] = refl
has_named q (p ∷ ps) = (λ i. named_at q p i || has_named q ps i)

-- a name is that of a pair where some item has it
named_all : (q : List ℕ) (items : ItemEntries) → nat_lt 0 (sum_by (λ item. presence q item.1) items) ≡ list_any (is_named q) (all_pairs items)
named_all q [] = refl
named_all q (item ∷ items) =
    ap (nat_lt 0) (sum_by-cons (λ i. presence q i.1) item items)
    ∙ positive_sum (list_any (is_named q) item.1) (sum_by (λ i. presence q i.1) items)
    ∙ ap (λ b. list_any (is_named q) item.1 || b) (named_all q items)
    ∙ sym (list_any-append (is_named q) item.1 (all_pairs items))

seen_count : (q : List ℕ) (kept : Kept) → IsWhole kept → count_of kept.names.counts q ≡ sum_by (λ item. presence q item.1) (items_kept kept)
seen_count q kept whole = whole.counts q ∙ sym (sum-seen item_with (λ row. presence q row.1) (λ item. presence q item.1) kept.rows one)
  where
    one : (k : List ℕ) (ps : List Pair) → presence q ps ≡ shown_weight item_with (λ row. presence q row.1) (λ item. presence q item.1) k (item_with ps)
    one k [] = refl
    one k (p ∷ ps) = refl

has_key : {X : Type 0} (q : List ℕ) (es : List (List ℕ × X)) → is_name q (keys_of es) ≡ is_some (found text_cmp es q)
has_key q [] = refl
has_key q (e ∷ es) =
    let ih = has_key q es in
    elim (is_at (text_cmp q) e.0) as (λ b. (b || is_name q (keys_of es)) ≡ is_some (cond b (Some e.1) (found text_cmp es q))) [ true ↦ refl | false ↦ ih ]

counted_some : (o : Option ℕ) → is_some (seen_of counted o) ≡ nat_lt 0 (unwrap_or o 0)
counted_some None = refl
counted_some (Some zero) = refl
counted_some (Some (suc n)) = sym (lt-ltb 0 (suc n) (omega arith))

names_are : (kept : Kept) → IsWhole kept → names_counted kept.names.counts ≡ names_of (items_kept kept)
names_are kept whole =
    same_members nat_list_cmp_total exact_bytes (names_counted kept.names.counts) (names_of (items_kept kept))
    (rising-seen counted kept.names.counts whole.tallied.rise)
    (rising_all [] (map (λ p. p.name) (all_pairs (items_kept kept))) none_rise)
    (λ q.
    has_key q (seen counted kept.names.counts)
    ∙ ap is_some (found-seen counted kept.names.counts q whole.tallied.rise)
    ∙ counted_some (found text_cmp kept.names.counts q)
    ∙ ap (nat_lt 0) (seen_count q kept whole)
    ∙ named_all q (items_kept kept)
    ∙ sym (has_named q (all_pairs (items_kept kept)))
    ∙ sym (has_all q [] (map (λ p. p.name) (all_pairs (items_kept kept)))))

pub describes : (kept : Kept) → IsWhole kept
    → Describes (items_kept kept) (record { items = kept.sums.items; item_bytes = kept.sums.item_bytes; names = kept.names.number; name_bytes = kept.names.bytes; pairs = kept.sums.pairs; value_bytes = kept.sums.value_bytes })
describes kept whole = record {
  items_are = count_is kept whole;
  item_bytes_are = item_bytes_is kept whole;
  names_are = whole.tallied.number ∙ ap length (names_are kept whole);
  name_bytes_are = whole.tallied.bytes ∙ ap (sum_by length) (names_are kept whole);
  pairs_are = pairs_is kept whole;
  value_bytes_are = value_bytes_is kept whole;
}
