-- The pairs that are shown, and the room that they take.
use Rattle.std.proofs.Common.{◌≡◌, ◌⊎◌, inl, inr, map, ℕ, ◌+◌, ◌-◌, ◌<◌, ◌≤◌, Bool, true, false, cond, List, [], ◌∷◌, length, get_or, drop, filter, Some, None, refl, sym, ap, ◌∙◌, arith, drop-cons, add-one, suc, drop_of_length-le}
use Rattle.std.specs.Prelude.{nat_le, sum_by}
use Rattle.std.proofs.lemmas.Bool.{le-leb, cond-true, cond-false, leb-true, leb-false}
use Rattle.std.proofs.lemmas.List.Sums.{sum_by-cons}
use Rattle.sdb_base.proofs.Cases.{by_bool}
use Rattle.sdb_pairs.specs.declared.pair.Pair.{Pair}
use Rattle.sdb_parse.specs.declared.select.Output.{Output}
use Rattle.sdb_parse.specs.declared.select.Output.TheVariants as output
use Rattle.sdb_page.specs.Seen.{left_of, shows}
use Rattle.sdb_page.specs.Selects.{items_on, shown_as}
use Rattle.sdb_page.specs.Spots.{Row, pair_bytes, shown_pairs}

all_shown : (pairs : List Pair) → pairs ≡ filter (shows output.All) pairs
all_shown [] = refl
all_shown (pair ∷ pairs) = ap (λ l. pair ∷ l) (all_shown pairs)

none_by_name : (pairs : List Pair) → [] ≡ filter (shows output.Names) pairs
none_by_name [] = refl
none_by_name (pair ∷ pairs) = none_by_name pairs

none_counted : (pairs : List Pair) → [] ≡ filter (shows output.Count) pairs
none_counted [] = refl
none_counted (pair ∷ pairs) = none_counted pairs

pub shown-filter : (shown : Output) (pairs : List Pair) → shown_pairs shown pairs ≡ filter (shows shown) pairs
shown-filter output.All pairs = all_shown pairs
shown-filter output.Names pairs = none_by_name pairs
shown-filter output.Count pairs = none_counted pairs
shown-filter (output.Listed names) pairs = refl

-- ---- room

-- the bytes of those pairs that are shown
abbrev pub bytes_of : Output → List Pair → ℕ
bytes_of shown pairs = sum_by pair_bytes (filter (shows shown) pairs)

pub bytes-shown : (shown : Output) (pairs : List Pair) → sum_by pair_bytes (shown_pairs shown pairs) ≡ bytes_of shown pairs
bytes-shown shown pairs = ap (sum_by pair_bytes) (shown-filter shown pairs)

left_fits : (room size : ℕ) → size ≤ room → left_of room size ≡ Some (room - size)
left_fits room size fits = cond-true (nat_le size room) (Some (room - size)) None (le-leb size room fits)

left_not : (room size : ℕ) → room < size → left_of room size ≡ None
left_not room size over = by_bool (nat_le size room) (λ t. absurd (omega (arith, leb-true _ _ t, over))) (λ f. cond-false (nat_le size room) (Some (room - size)) None f)

fits_where : (room size left : ℕ) → left_of room size ≡ Some left → (size ≤ room) × (left ≡ room - size)
fits_where room size left is =
    by_bool (nat_le size room)
    (λ t. (leb-true _ _ t, (let s = sym (cond-true (nat_le size room) (Some (room - size)) None t) ∙ is in cc)))
    (λ f. absurd (let s = sym (cond-false (nat_le size room) (Some (room - size)) None f) ∙ is in cc))

over_where : (room size : ℕ) → left_of room size ≡ None → room < size
over_where room size is =
    by_bool (nat_le size room)
    (λ t. absurd (let s = sym (cond-true (nat_le size room) (Some (room - size)) None t) ∙ is in cc))
    (λ f. omega (arith, leb-false _ _ f))

-- what is left behind something and more
pub left-more : (room size more left : ℕ) → left_of room size ≡ Some left → left_of room (size + more) ≡ left_of left more
left-more room size more left is =
    let where_fits = fits_where room size left is in
    by_bool (nat_le more left)
    (λ t.
    let small = leb-true more left t in
    left_fits room (size + more) (omega (arith, where_fits.0, where_fits.1, small)) ∙ ap (λ (n : ℕ). Some n) (omega (arith, where_fits.0, where_fits.1, small)) ∙ sym (left_fits left more small))
    (λ f.
    let over = leb-false more left f in
    left_not room (size + more) (omega (arith, where_fits.0, where_fits.1, over)) ∙ sym (left_not left more (omega (arith, over))))

-- and where it doesn't fit
pub left-none : (room size more : ℕ) → left_of room size ≡ None → left_of room (size + more) ≡ None
left-none room size more is = left_not room (size + more) (omega (arith, over_where room size is))

pub left-nothing : (room : ℕ) → left_of room 0 ≡ Some room
left-nothing room = left_fits room 0 (omega arith) ∙ ap (λ (n : ℕ). Some n) (omega arith)

-- ---- the pairs of an item, one after the other

bytes_cons : (shown : Output) (pair : Pair) (pairs : List Pair) (b : Bool) → shows shown pair ≡ b → bytes_of shown (pair ∷ pairs) ≡ cond b (pair_bytes pair) 0 + bytes_of shown pairs
bytes_cons shown pair pairs true is = ap (λ t. sum_by pair_bytes (cond t (pair ∷ filter (shows shown) pairs) (filter (shows shown) pairs))) is ∙ sum_by-cons pair_bytes pair (filter (shows shown) pairs)
bytes_cons shown pair pairs false is = ap (λ t. sum_by pair_bytes (cond t (pair ∷ filter (shows shown) pairs) (filter (shows shown) pairs))) is ∙ omega arith

-- the bytes that follow a pair
pub bytes-next : (shown : Output) (pairs : List Pair) (i : ℕ) (d pair : Pair) (b : Bool) → i < length pairs → pair ≡ get_or pairs i d → b ≡ shows shown pair → bytes_of shown (drop i pairs) ≡ cond b (pair_bytes pair) 0 + bytes_of shown (drop (i + 1) pairs)
bytes-next shown pairs i d pair b inside is shows_is =
    let split : drop i pairs ≡ pair ∷ drop (i + 1) pairs = drop-cons pairs i d inside ∙ ap (λ r. r ∷ drop (suc i) pairs) (sym is) ∙ ap (λ n. pair ∷ drop n pairs) (sym (add-one i)) in
    ap (bytes_of shown) split ∙ bytes_cons shown pair (drop (i + 1) pairs) b (sym shows_is)

pub bytes-none : (shown : Output) (pairs : List Pair) (i : ℕ) → length pairs ≤ i → bytes_of shown (drop i pairs) ≡ 0
bytes-none shown pairs i past = ap (bytes_of shown) (drop_of_length-le pairs {i = i} past)

-- ---- items that are shown

pub shown_items : (shown : Output) (rows : List Row) → (shown ≡ output.All) ⊎ ((shown ≡ output.Names) ⊎ ((names : List (List ℕ)) × (shown ≡ output.Listed names))) → map (shown_as shown) rows ≡ items_on shown rows
shown_items output.All rows is = refl
shown_items output.Names rows is = refl
shown_items (output.Listed names) rows is = refl
shown_items output.Count rows is = absurd (elim is as (λ x. ⊥) [ inl e ↦ cc | inr other ↦ (elim other as (λ x. ⊥) [ inl e ↦ cc | inr e ↦ (let no = e.1 in cc) ]) ])
