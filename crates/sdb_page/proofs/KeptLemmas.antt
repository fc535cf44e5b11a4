-- Rows that are kept of those met so far.
use Rattle.std.proofs.Common.{◌≡◌, ℕ, zero, suc, ◌+◌, ◌<◌, ◌≤◌, Bool, true, false, cond, List, [], ◌∷◌, length, get_or, map, take, filter, fold, Option, Some, None, Ordering, Less, Equal, Greater, is_lt, refl, sym, ap, ◌∙◌, arith, take_all, length-take}
use Rattle.std.specs.BTreeMap.{insert_entry}
use Rattle.std.specs.Cmp.{IsTotalOrder}
use Rattle.std.specs.Ordering.{match_ordering}
use Rattle.std.proofs.lemmas.Cmp.{alike_right}
use Rattle.std.proofs.lemmas.List.Folds.{fold-map}
use Rattle.std.proofs.lemmas.List.Sums.{fold_more}
use Rattle.sdb_base.proofs.Cases.{by_ordering}
use Rattle.sdb_parse.specs.declared.select.Sort.{Sort}
use Rattle.sdb_page.specs.Pages.{after}
use Rattle.sdb_domain.specs.Rows.{seen_row}
use Rattle.sdb_page.specs.Seen.{offered_at, stands_after}
use Rattle.sdb_page.specs.Spots.{Item, Row, Spot, rows_of, spot_cmp, spot_of, with_row}
use Rattle.sdb_domain.specs.declared.row.Row.{Row as Lent}
use Rattle.sdb_page.proofs.SpotLemmas.{spot_total}

cond_put : {A : Type 0} (t : Bool) (x : A) (xs ys : List A) → x ∷ cond t xs ys ≡ cond t (x ∷ xs) (x ∷ ys)
cond_put true x xs ys = refl
cond_put false x xs ys = refl

take_less : {A : Type 0} (n : ℕ) (xs : List A) → take n (take (suc n) xs) ≡ take n xs
take_less zero xs = refl
take_less (suc n) [] = refl
take_less (suc n) (x ∷ xs) = ap (λ l. x ∷ l) (take_less n xs)

take_same : {A : Type 0} (n : ℕ) (xs : List A) → take n (take n xs) ≡ take n xs
take_same zero xs = refl
take_same (suc n) [] = refl
take_same (suc n) (x ∷ xs) = ap (λ l. x ∷ l) (take_same n xs)

module _ {P X : Type 0} {cmp : P → P → Ordering} (o : IsTotalOrder cmp) where
  abbrev past : P → P × X → Bool
  past start row = is_lt (cmp start row.0)

  -- behind a start stands an entry that was put where it stands there, and else what stood there before
  pub behind_put : (rows : List (P × X)) (start place : P) (x : X) → filter (past start) (insert_entry cmp rows place x) ≡ cond (is_lt (cmp start place)) (insert_entry cmp (filter (past start) rows) place x) (filter (past start) rows)
  behind_put [] start place x = refl
  behind_put (e ∷ es) start place x =
      by_ordering (cmp place e.0)
      (λ less.
      by_ordering (cmp start place)
      (λ below. let beyond : cmp start e.0 ≡ Less = o.trans start place e.0 below less in rw (less, below, beyond, less) refl)
      (λ tied. rw (less, tied) refl)
      (λ above. rw (less, above) refl))
      (λ equal.
      let same : cmp start e.0 ≡ cmp start place = sym (alike_right o place e.0 start equal) in
      by_ordering (cmp start place)
      (λ below. rw (equal, same, below, equal) refl)
      (λ tied. rw (equal, same, tied) refl)
      (λ above. rw (equal, same, above) refl))
      (λ greater.
      let later = behind_put es start place x in
      by_ordering (cmp start e.0)
      (λ beyond. rw (greater, beyond, greater) (ap (λ l. e ∷ l) later ∙ cond_put (is_lt (cmp start place)) e _ _))
      (λ tied. rw (greater, tied) later)
      (λ above. rw (greater, above) later))

  -- the first entries after one more is put are those of the first entries before
  first_put : (n : ℕ) (rows : List (P × X)) (place : P) (x : X) → take n (insert_entry cmp (take n rows) place x) ≡ take n (insert_entry cmp rows place x)
  first_put zero rows place x = refl
  first_put (suc n) [] place x = refl
  first_put (suc n) (e ∷ es) place x =
      let later = first_put n es place x in
      let front : take n (e ∷ take n es) ≡ take n (e ∷ es) = front_of n in
      let same = take_same n es in
      elim (cmp place e.0) as (λ r. take (suc n) (match_ordering r ((place, x) ∷ e ∷ take n es) ((e.0, x) ∷ take n es) (e ∷ insert_entry cmp (take n es) place x)) ≡ take (suc n) (match_ordering r ((place, x) ∷ e ∷ es) ((e.0, x) ∷ es) (e ∷ insert_entry cmp es place x))) [
        | Less ↦ ap (λ l. (place, x) ∷ l) front
        | Equal ↦ ap (λ l. (e.0, x) ∷ l) same
        | Greater ↦ ap (λ l. e ∷ l) later
      ]
    where
      front_of : (m : ℕ) → take m (e ∷ take m es) ≡ take m (e ∷ es)
      front_of zero = refl
      front_of (suc m) = ap (λ l. e ∷ l) (take_less m es)

-- one entry more at most
pub put_one : {P X : Type 0} (cmp : P → P → Ordering) (rows : List (P × X)) (place : P) (x : X) → length (insert_entry cmp rows place x) ≤ length rows + 1
put_one cmp [] place x = omega arith
put_one cmp (e ∷ es) place x =
    let later = put_one cmp es place x in
    elim (cmp place e.0) as (λ r. length (match_ordering r ((place, x) ∷ e ∷ es) ((e.0, x) ∷ es) (e ∷ insert_entry cmp es place x)) ≤ suc (length es) + 1) [ Less ↦ omega arith | Equal ↦ omega arith | Greater ↦ omega (arith, later) ]

-- ---- the rows of a Select

module _ (sort : Option Sort) where
  -- what items bring to rows, of which none is left away
  abbrev pub placed_of : List Lent → List Row
  placed_of rows = fold (λ placed row. with_row placed (spot_of sort (seen_row row)) (seen_row row)) [] rows

  pub placed-rows : (rows : List Lent) → placed_of rows ≡ rows_of sort (map seen_row rows)
  placed-rows rows = sym (fold-map (λ placed item. with_row placed (spot_of sort item) item) seen_row [] rows)

  few_with : (placed : List Row) (spot : Option Spot) (item : Item) → length (with_row placed spot item) ≤ length placed + 1
  few_with placed None item = omega arith
  few_with placed (Some spot) item = put_one spot_cmp placed spot item

  few_placed : (placed : List Row) (rows : List Lent) → length (fold (λ placed row. with_row placed (spot_of sort (seen_row row)) (seen_row row)) placed rows) ≤ length placed + length rows
  few_placed placed [] = omega arith
  few_placed placed (row ∷ rows) =
      let more : length (with_row placed (spot_of sort (seen_row row)) (seen_row row)) ≤ length placed + 1 = few_with placed (spot_of sort (seen_row row)) (seen_row row) in
      omega (arith, few_placed (with_row placed (spot_of sort (seen_row row)) (seen_row row)) rows, more)

  -- no more rows are placed than there are items
  pub few_rows : (rows : List Lent) → length (rows_of sort (map seen_row rows)) ≤ length rows
  few_rows rows = omega (arith, few_placed [] rows, ap length (placed-rows rows))

  module _ (start : Option Spot) (most : ℕ) where
    -- what is kept of rows
    abbrev pub kept_of : List Row → List Row
    kept_of placed = take most (after spot_cmp placed start)

    kept_after : (start : Option Spot) (placed : List Row) (spot : Spot) (item : Item) → take most (after spot_cmp (insert_entry spot_cmp placed spot item) start)
        ≡ cond (stands_after start spot) (take most (insert_entry spot_cmp (take most (after spot_cmp placed start)) spot item)) (take most (after spot_cmp placed start))
    kept_after None placed spot item = sym (first_put spot_total most placed spot item)
    kept_after (Some from) placed spot item =
        ap (take most) (behind_put spot_total placed from spot item)
        ∙ (elim (is_lt (spot_cmp from spot)) as (λ t. take most (cond t (insert_entry spot_cmp (after spot_cmp placed (Some from)) spot item) (after spot_cmp placed (Some from))) ≡ cond t (take most (insert_entry spot_cmp (take most (after spot_cmp placed (Some from))) spot item)) (take most (after spot_cmp placed (Some from)))) [
          | true ↦ sym (first_put spot_total most (after spot_cmp placed (Some from)) spot item)
          | false ↦ refl
        ])

    kept_where : (placed : List Row) (spot : Option Spot) (item : Item) → kept_of (with_row placed spot item) ≡ offered_at start most (kept_of placed) spot item
    kept_where placed None item = refl
    kept_where placed (Some spot) item = kept_after start placed spot item

    -- an item more
    pub kept_more : (rows : List Lent) (i : ℕ) (lent : Lent) (now next : List Row) → i < length rows → now ≡ kept_of (placed_of (take i rows))
        → next ≡ offered_at start most now (spot_of sort (seen_row (get_or rows i lent))) (seen_row (get_or rows i lent)) → next ≡ kept_of (placed_of (take (i + 1) rows))
    kept_more rows i lent now next inside is more =
        let item = seen_row (get_or rows i lent) in
        more
        ∙ ap (λ l. offered_at start most l (spot_of sort item) item) is
        ∙ sym (kept_where (placed_of (take i rows)) (spot_of sort item) item)
        ∙ ap kept_of (sym (fold_more (λ placed row. with_row placed (spot_of sort (seen_row row)) (seen_row row)) [] rows i lent inside))

    -- all items
    pub kept_all : (rows : List Lent) (i : ℕ) (now : List Row) → length rows ≤ i → now ≡ kept_of (placed_of (take i rows)) → now ≡ kept_of (rows_of sort (map seen_row rows))
    kept_all rows i now past is = is ∙ ap (λ l. kept_of (placed_of l)) (take_all i rows past) ∙ ap kept_of (placed-rows rows)

    pub kept_few : (placed now : List Row) → now ≡ kept_of placed → length now ≤ most
    kept_few placed now is = omega (arith, ap length is, length-take most (after spot_cmp placed start))
