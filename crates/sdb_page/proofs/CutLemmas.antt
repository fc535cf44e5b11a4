-- Where a page ends.
use Rattle.std.proofs.Common.{◌≡◌, ℕ, zero, suc, ◌+◌, ◌-◌, ◌<◌, ◌≤◌, Bool, true, false, ◌&&◌, cond, nat_lt, nat_le, List, [], ◌∷◌, ◌++◌, length, get_or, map, take, drop, Some, None, refl, sym, ap, ◌∙◌, arith, add-one, drop-cons, take_all, append-nil, append_assoc, drop_of_length-le, length-take}
use Rattle.std.specs.Prelude.{slice_get}
use Rattle.std.proofs.lemmas.Bool.{cond-true, cond-false, lt-ltb, ltb-true, ltb-false, and_from}
use Rattle.std.proofs.lemmas.List.{take_more}
use Rattle.sdb_base.proofs.Cases.{by_bool}
use Rattle.sdb_page.specs.Pages.{fitting, last_place}
use Rattle.sdb_page.specs.Seen.{left_of}
use Rattle.sdb_page.proofs.FrontLemmas.{fitting-is_longest}

-- the last place is that of the last row
pub last_place-map : {A P X : Type 0} (f : A → P × X) (rows : List A) (last : A) → Some last ≡ slice_get rows (length rows - 1) → last_place (map f rows) ≡ Some (f last).0
last_place-map f [] last is = absurd cc
last_place-map {A} f (row ∷ []) last is = let same : row ≡ last = cc in ap (λ (r : A). Some (f r).0) same
last_place-map f (row ∷ second ∷ rows) last is =
    last_place-map f (second ∷ rows) last (is ∙ ap (slice_get (row ∷ second ∷ rows)) (last_of (length rows)) ∙ ap (slice_get (second ∷ rows)) (last_but (length rows)))
  where
    last_of : (n : ℕ) → suc (suc n) - 1 ≡ suc n
    last_of n = omega arith

    last_but : (n : ℕ) → n ≡ suc n - 1
    last_but n = omega arith

module _ {R : Type 0} (size : R → ℕ) where
  -- no row where none may stand
  none_allowed : (bytes : ℕ) (rows : List R) → fitting size 0 bytes rows ≡ []
  none_allowed bytes [] = refl
  none_allowed bytes (row ∷ rows) = refl

  -- a row that fits stands on the page
  pub fits_more : (limit bytes left : ℕ) (row : R) (rows : List R) → 0 < limit → left_of bytes (size row) ≡ Some left → fitting size limit bytes (row ∷ rows) ≡ row ∷ fitting size (limit - 1) left rows
  fits_more limit bytes left row rows some fits =
      by_bool (nat_le (size row) bytes)
      (λ t.
      let is : bytes - size row ≡ left = (let s = sym (cond-true (nat_le (size row) bytes) (Some (bytes - size row)) None t) ∙ fits in cc) in
      let both : nat_lt 0 limit && nat_le (size row) bytes ≡ true = and_from _ _ (lt-ltb 0 limit some) t in
      cond-true _ (row ∷ fitting size (limit - 1) (bytes - size row) rows) [] both ∙ ap (λ n. row ∷ fitting size (limit - 1) n rows) is)
      (λ f. absurd (let s = sym (cond-false (nat_le (size row) bytes) (Some (bytes - size row)) None f) ∙ fits in cc))

  and_false : (a b : Bool) → b ≡ false → a && b ≡ false
  and_false true b f = f
  and_false false b f = refl

  -- one that doesn't fit ends it
  pub fits_not : (limit bytes : ℕ) (row : R) (rows : List R) → left_of bytes (size row) ≡ None → fitting size limit bytes (row ∷ rows) ≡ []
  fits_not limit bytes row rows not =
      by_bool (nat_le (size row) bytes)
      (λ t. absurd (let s = sym (cond-true (nat_le (size row) bytes) (Some (bytes - size row)) None t) ∙ not in cc))
      (λ f. cond-false _ (row ∷ fitting size (limit - 1) (bytes - size row) rows) [] (and_false (nat_lt 0 limit) _ f))

  -- ---- the rows so far are on the page, and what still fits follows

  pub record Cutting (limit bytes left : ℕ) (rows : List R) (i : ℕ) : Type 0 where
    pub within : i ≤ limit
    pub front : fitting size limit bytes rows ≡ take i rows ++ fitting size (limit - i) left (drop i rows)

  pub Cutting-init : (limit bytes : ℕ) (rows : List R) → Cutting limit bytes bytes rows 0
  Cutting-init limit bytes rows = record { within = omega arith; front = ap (λ n. fitting size n bytes rows) (omega arith) }

  pub Cutting-more : (limit bytes room left : ℕ) (rows : List R) (i : ℕ) (d row : R) → i < length rows → i < limit → row ≡ get_or rows i d → left_of room (size row) ≡ Some left
      → Cutting limit bytes room rows i → Cutting limit bytes left rows (i + 1)
  Cutting-more limit bytes room left rows i d row inside below is fits so =
      let split : drop i rows ≡ row ∷ drop (i + 1) rows = drop-cons rows i d inside ∙ ap (λ r. r ∷ drop (suc i) rows) (sym is) ∙ ap (λ n. row ∷ drop n rows) (sym (add-one i)) in
      let longer : take (i + 1) rows ≡ take i rows ++ row ∷ [] = take_more rows i d inside ∙ ap (λ r. take i rows ++ r ∷ []) (sym is) in
      record {
        within = omega arith;
        front =
            so.front
            ∙ ap (λ l. take i rows ++ l) (ap (fitting size (limit - i) room) split ∙ fits_more (limit - i) room left row (drop (i + 1) rows) (omega arith) fits ∙ ap (λ n. row ∷ fitting size n left (drop (i + 1) rows)) (omega arith))
            ∙ sym (append_assoc (take i rows) (row ∷ []) (fitting size (limit - (i + 1)) left (drop (i + 1) rows)))
            ∙ ap (λ l. l ++ fitting size (limit - (i + 1)) left (drop (i + 1) rows)) (sym longer);
      }

  ended : (limit bytes left : ℕ) (rows : List R) (i : ℕ) → Cutting limit bytes left rows i → fitting size (limit - i) left (drop i rows) ≡ [] → take i rows ≡ fitting size limit bytes rows
  ended limit bytes left rows i so none = sym (so.front ∙ ap (λ l. take i rows ++ l) none ∙ append-nil (take i rows))

  pub Cutting-limit : (limit bytes left : ℕ) (rows : List R) (i : ℕ) → i ≡ limit → Cutting limit bytes left rows i → take i rows ≡ fitting size limit bytes rows
  Cutting-limit limit bytes left rows i is so = ended limit bytes left rows i so (ap (λ n. fitting size n left (drop i rows)) (omega arith) ∙ none_allowed left (drop i rows))

  pub Cutting-full : (limit bytes left : ℕ) (rows : List R) (i : ℕ) (d row : R) → i < length rows → row ≡ get_or rows i d → left_of left (size row) ≡ None → Cutting limit bytes left rows i
      → take i rows ≡ fitting size limit bytes rows
  Cutting-full limit bytes left rows i d row inside is not so =
      let split : drop i rows ≡ row ∷ drop (suc i) rows = drop-cons rows i d inside ∙ ap (λ r. r ∷ drop (suc i) rows) (sym is) in
      ended limit bytes left rows i so (ap (fitting size (limit - i) left) split ∙ fits_not (limit - i) left row (drop (suc i) rows) not)

  pub Cutting-all : (limit bytes left : ℕ) (rows : List R) (i : ℕ) → length rows ≤ i → Cutting limit bytes left rows i → take (length rows) rows ≡ fitting size limit bytes rows
  Cutting-all limit bytes left rows i past so =
      take_all (length rows) rows (omega arith)
      ∙ sym (take_all i rows past)
      ∙ ended limit bytes left rows i so (ap (fitting size (limit - i) left) (drop_of_length-le rows {i = i} past))

  -- ---- a page of the first rows

  pub fitting-take : (most limit bytes : ℕ) (rows : List R) → limit ≤ most → fitting size limit bytes (take most rows) ≡ fitting size limit bytes rows
  fitting-take zero limit bytes rows few = ap (λ n. fitting size n bytes []) none ∙ sym (ap (λ n. fitting size n bytes rows) none ∙ none_allowed bytes rows)
    where
      none : limit ≡ 0
      none = omega arith
  fitting-take (suc most) limit bytes [] few = refl
  fitting-take (suc most) limit bytes (row ∷ rows) few =
      ap (λ l. cond (nat_lt 0 limit && nat_le (size row) bytes) (row ∷ l) []) (fitting-take most (limit - 1) (bytes - size row) rows (omega arith))

  -- whether more is left shows where one row more than the limit is kept
  pub more-take : (most limit bytes : ℕ) (rows : List R) → limit < most → nat_lt (length (fitting size limit bytes rows)) (length (take most rows)) ≡ nat_lt (length (fitting size limit bytes rows)) (length rows)
  more-take most limit bytes rows few =
      let few_rows : length (fitting size limit bytes rows) ≤ limit = (fitting-is_longest size limit bytes rows).may.0 in
      by_bool (nat_lt (length (fitting size limit bytes rows)) (length rows))
      (λ t. lt-ltb _ _ (omega (arith, few_rows, ltb-true _ _ t, length-take most rows)) ∙ sym t)
      (λ f. not_lt _ _ (omega (arith, ltb-false _ _ f, length-take most rows)) ∙ sym f)
    where
      not_lt : (a b : ℕ) → b ≤ a → nat_lt a b ≡ false
      not_lt a b h = by_bool (nat_lt a b) (λ t. absurd (omega (arith, h, ltb-true _ _ t))) (λ f. f)

  -- ---- what the rows that are kept say of all

  pub front-is : (most limit bytes : ℕ) (all kept : List R) → limit ≤ most → kept ≡ take most all → fitting size limit bytes kept ≡ fitting size limit bytes all
  front-is most limit bytes all kept few is = ap (fitting size limit bytes) is ∙ fitting-take most limit bytes all few

  pub more-is : (most limit bytes : ℕ) (all kept : List R) → limit < most → kept ≡ take most all
      → nat_lt (length (fitting size limit bytes kept)) (length kept) ≡ nat_lt (length (fitting size limit bytes all)) (length all)
  more-is most limit bytes all kept few is =
      ap (λ l. nat_lt (length (fitting size limit bytes l)) (length l)) is
      ∙ ap (λ l. nat_lt (length l) (length (take most all))) (fitting-take most limit bytes all (omega arith))
      ∙ more-take most limit bytes all few
