-- How many rows stand after a start, counted before they are put in order.
use Rattle.std.proofs.Common.{◌≡◌, ℕ, suc, ◌+◌, ◌<◌, ◌≤◌, refl, Bool, true, false, cond, List, [], ◌∷◌, ◌++◌, length, get_or, map, take, drop, filter, fold, Option, Some, None, option_map, Ordering, Less, Equal, Greater, is_lt, sym, ap, ap₂, ◌∙◌, subst, arith, drop-cons, take_all}
use Rattle.std.specs.BTreeMap.{insert_entry}
use Rattle.std.specs.List.{AllByRecursion}
use Rattle.std.specs.Map.{keys_of}
use Rattle.std.specs.Ordering.{match_ordering, ordering_then}
use Rattle.std.proofs.lemmas.Cmp.{nat_list_cmp_total}
use Rattle.std.proofs.lemmas.List.{map-append, take-append-drop}
use Rattle.std.proofs.lemmas.List.Sums.{fold_more}
use Rattle.sdb_base.specs.Entries.{IsRising}
use Rattle.sdb_base.specs.Texts.{text_cmp}
use Rattle.sdb_base.proofs.EntryLemmas.{keys_below}
use Rattle.sdb_base.proofs.KeyLemmas.{each_weaker, turn}
use Rattle.sdb_domain.specs.Rows.{seen_row}
use Rattle.sdb_domain.specs.declared.row.Row.{Row as Lent}
use Rattle.sdb_pairs.specs.Accounts.{ItemEntries}
use Rattle.sdb_parse.specs.declared.select.Sort.{Sort}
use Rattle.sdb_page.specs.Pages.{after}
use Rattle.sdb_page.specs.Seen.{spot_after, stands_after}
use Rattle.sdb_page.specs.Spots.{Item, Row, Spot, falls_of, rank_cmp, rank_of, rows_of, sort_key, spot_cmp, spot_of, with_row}
use Rattle.sdb_page.proofs.KeptLemmas.{behind_put, placed_of, placed-rows}
use Rattle.sdb_page.proofs.SpotLemmas.{spot_total}

each_kept : {X : Type 0} (p : X → Bool) (Q : X → Type 0) (xs : List X) → AllByRecursion Q xs → AllByRecursion Q (filter p xs)
each_kept p Q [] h = tt
each_kept p Q (x ∷ xs) h =
    let others = each_kept p Q xs h.1 in
    elim (p x) as (λ b. AllByRecursion Q (cond b (x ∷ filter p xs) (filter p xs))) [ true ↦ (h.0, others) | false ↦ others ]

-- ---- a row at a spot of its own

-- the spot is none of the rows'
abbrev Apart : Spot → List Row → Type 0
Apart spot rows = AllByRecursion (λ row. spot_cmp spot row.0 ≡ Equal → ⊥) rows

-- it is one row more
put_apart : (rows : List Row) (spot : Spot) (item : Item) → Apart spot rows → length (insert_entry spot_cmp rows spot item) ≡ length rows + 1
put_apart [] spot item apart = omega arith
put_apart (e ∷ es) spot item apart =
    let later = put_apart es spot item apart.1 in
    (elim (spot_cmp spot e.0) as (λ r. (r ≡ Equal → ⊥) → length (match_ordering r ((spot, item) ∷ e ∷ es) ((e.0, item) ∷ es) (e ∷ insert_entry spot_cmp es spot item)) ≡ suc (length es) + 1) [
      | Less ↦ λ no. omega arith
      | Equal ↦ λ no. absurd (no refl)
      | Greater ↦ λ no. omega (arith, later)
    ]) apart.0

-- and one more after a start where its spot stands after that
put_after : (start : Option Spot) (rows : List Row) (spot : Spot) (item : Item) → Apart spot rows
    → length (after spot_cmp (insert_entry spot_cmp rows spot item) start) ≡ length (after spot_cmp rows start) + cond (stands_after start spot) 1 0
put_after None rows spot item apart = put_apart rows spot item apart
put_after (Some from) rows spot item apart =
    let rest = after spot_cmp rows (Some from) in
    ap length (behind_put spot_total rows from spot item)
    ∙ (elim (is_lt (spot_cmp from spot)) as (λ t. length (cond t (insert_entry spot_cmp rest spot item) rest) ≡ length rest + cond t 1 0) [
      | true ↦ put_apart rest spot item (each_kept (λ row. is_lt (spot_cmp from row.0)) (λ row. spot_cmp spot row.0 ≡ Equal → ⊥) rows apart)
      | false ↦ omega arith
    ])

-- ---- rows of lower names

-- the rows' names are below a name
abbrev Below : List ℕ → List Row → Type 0
Below name rows = AllByRecursion (λ row. text_cmp row.0.name name ≡ Less) rows

put_below : (name : List ℕ) (rows : List Row) (spot : Spot) (item : Item) → Below name rows → text_cmp spot.name name ≡ Less → Below name (insert_entry spot_cmp rows spot item)
put_below name [] spot item h low = (low, tt)
put_below name (e ∷ es) spot item h low =
    let later = put_below name es spot item h.1 low in
    elim (spot_cmp spot e.0) as (λ r. Below name (match_ordering r ((spot, item) ∷ e ∷ es) ((e.0, item) ∷ es) (e ∷ insert_entry spot_cmp es spot item))) [ Less ↦ (low, h) | Equal ↦ (h.0, h.1) | Greater ↦ (h.0, later) ]

then_equal : (a b : Ordering) → ordering_then a b ≡ Equal → b ≡ Equal
then_equal Less b h = absurd cc
then_equal Equal b h = h
then_equal Greater b h = absurd cc

below_apart : (rows : List Row) (spot : Spot) → Below spot.name rows → Apart spot rows
below_apart rows spot h =
    each_weaker {P = λ (row : Row). text_cmp row.0.name spot.name ≡ Less} {Q = λ (row : Row). spot_cmp spot row.0 ≡ Equal → ⊥}
    (λ (row : Row) (low : text_cmp row.0.name spot.name ≡ Less) (tie : spot_cmp spot row.0 ≡ Equal).
    absurd
    (let equal : text_cmp spot.name row.0.name ≡ Equal = then_equal (rank_cmp spot.key row.0.key) (text_cmp spot.name row.0.name) tie in
    let above : text_cmp spot.name row.0.name ≡ Greater = turn nat_list_cmp_total row.0.name spot.name Less low in
    cc))
    rows h

module _ (sort : Option Sort) where
  -- the spot of an item by its key
  abbrev spot_by : Item → List ℕ → Spot
  spot_by item key = record { key = rank_of (falls_of sort) key; name = item.0 }

  with_below : (name : List ℕ) (rows : List Row) (item : Item) → Below name rows → text_cmp item.0 name ≡ Less → Below name (with_row rows (spot_of sort item) item)
  with_below name rows item h low = elim (sort_key sort item) as (λ key. Below name (with_row rows (option_map (spot_by item) key) item)) [ None ↦ h | Some key ↦ put_below name rows (spot_by item key) item h low ]

  rows_below : (name : List ℕ) (items : ItemEntries) (rows : List Row) → Below name rows → AllByRecursion (λ other. text_cmp other name ≡ Less) (keys_of items)
      → Below name (fold (λ rows item. with_row rows (spot_of sort item) item) rows items)
  rows_below name [] rows h low = h
  rows_below name (item ∷ items) rows h low = rows_below name items (with_row rows (spot_of sort item) item) (with_below name rows item h low.0) low.1

  module _ (start : Option Spot) where
    item_more : (rows : List Row) (item : Item) → Below item.0 rows → length (after spot_cmp (with_row rows (spot_of sort item) item) start) ≡ length (after spot_cmp rows start) + cond (spot_after start (spot_of sort item)) 1 0
    item_more rows item low =
        elim (sort_key sort item) as (λ key. length (after spot_cmp (with_row rows (option_map (spot_by item) key) item) start) ≡ length (after spot_cmp rows start) + cond (spot_after start (option_map (spot_by item) key)) 1 0) [
          | None ↦ omega arith
          | Some key ↦ put_after start rows (spot_by item key) item (below_apart rows (spot_by item key) low)
        ]

    -- an item more
    pub total_more : (rows : List Lent) (i : ℕ) (lent : Lent) (now next : ℕ) (b : Bool) → IsRising text_cmp (map seen_row rows) → i < length rows
        → b ≡ spot_after start (spot_of sort (seen_row (get_or rows i lent))) → now ≡ length (after spot_cmp (placed_of sort (take i rows)) start)
        → next ≡ now + cond b 1 0 → next ≡ length (after spot_cmp (placed_of sort (take (i + 1) rows)) start)
    total_more rows i lent now next b rising inside is so_far more =
        let item = seen_row (get_or rows i lent) in
        let split : map seen_row rows ≡ map seen_row (take i rows) ++ item ∷ map seen_row (drop (suc i) rows) =
        ap (map seen_row) (sym (take-append-drop i rows) ∙ ap (λ l. take i rows ++ l) (drop-cons rows i lent inside)) ∙ map-append seen_row (take i rows) (get_or rows i lent ∷ drop (suc i) rows) in
        let low = keys_below nat_list_cmp_total (map seen_row (take i rows)) (map seen_row (drop (suc i) rows)) item (subst (IsRising text_cmp) split rising) in
        let below : Below item.0 (placed_of sort (take i rows)) = subst (Below item.0) (sym (placed-rows sort (take i rows))) (rows_below item.0 (map seen_row (take i rows)) [] tt low) in
        more
        ∙ ap₂ (λ n t. n + cond t 1 0) so_far is
        ∙ sym (item_more (placed_of sort (take i rows)) item below)
        ∙ ap (λ l. length (after spot_cmp l start)) (sym (fold_more (λ placed row. with_row placed (spot_of sort (seen_row row)) (seen_row row)) [] rows i lent inside))

    -- all items
    pub total_all : (rows : List Lent) (i now : ℕ) → length rows ≤ i → now ≡ length (after spot_cmp (placed_of sort (take i rows)) start) → now ≡ length (after spot_cmp (rows_of sort (map seen_row rows)) start)
    total_all rows i now past is = is ∙ ap (λ l. length (after spot_cmp (placed_of sort l) start)) (take_all i rows past) ∙ ap (λ l. length (after spot_cmp l start)) (placed-rows sort rows)
