-- One name only is a part at a place: numbers, parts and lists are spelled in one way.
use Rattle.std.proofs.Common.{◌≡◌, ◌≢◌, ℕ, suc, ◌+◌, ◌-◌, ◌*◌, ◌<◌, ◌≤◌, Bool, true, false, cond, not, ◌&&◌, ◌||◌, eqb, nat_le, List, [], ◌∷◌, ◌++◌, length, get_or, Option, Some, None, option_map, refl, sym, ap, ◌∙◌, arith}
use Rattle.std.specs.Char.{is_ascii_digit}
use Rattle.std.specs.List.{list_all, position_or_len, before_first, after_first}
use Rattle.std.specs.Option.{option_and_then}
use Rattle.std.specs.Prelude.{codes, nat_lt, slice_index}
use Rattle.std.specs.Str.{bytes_eq}
use Rattle.std.proofs.lemmas.Bool.{and_parts, eqb-true, eqb-false, leb-true, ltb-false, ltb-true}
use Rattle.std.proofs.lemmas.List.Sums.{passes_at_first, split_at_first}
use Rattle.std.proofs.lemmas.Option.{same_Some}
use Rattle.std.proofs.lemmas.Slice.Eq.{bytes_eq-Decides}
use Rattle.sdb_base.specs.Decimal.{decimal_of, is_decimal, value_after}
use Rattle.sdb_base.proofs.Cases.{by_bool}
use Rattle.sdb_action.specs.declared.numbers.EntryKind.{EntryKind}
use Rattle.sdb_action.specs.declared.numbers.EntryKind.TheVariants.{Attribute, AttributeName, Expected, Item}
use Rattle.sdb_action.specs.Numbers.{Part, after_prefix, place_of, is_point, cut_at_point, at_place, numbered, known, is_attribute_part, is_expected_part, attribute_part, is_item_part, item_part, name_part, expected_rest, expected_part, part_of}
use Rattle.sdb_action.proofs.Beginnings.{after_prefix-is}

-- ---- numbers

record IsDigit (c : ℕ) : Type 0 where
  least : 48 ≤ c
  most : c ≤ 57

digit : (c : ℕ) → is_ascii_digit c ≡ true → IsDigit c
digit c e = let both = and_parts (nat_le 48 c) (nat_le c 57) e in record { least = leb-true 48 c both.0; most = leb-true c 57 both.1 }

-- as many digits with one value, after whatever numbers
same_digits : (n m : ℕ) (ds es : List ℕ) → length ds ≡ length es → list_all is_ascii_digit ds ≡ true → list_all is_ascii_digit es ≡ true → value_after n ds ≡ value_after m es → (n ≡ m) × (ds ≡ es)
same_digits n m [] [] long d e same = (same, refl)
same_digits n m [] (e ∷ es) long d e' same = absurd (omega arith)
same_digits n m (d ∷ ds) [] long d' e same = absurd (omega arith)
same_digits n m (d ∷ ds) (e ∷ es) long all_d all_e same =
    let here = and_parts (is_ascii_digit d) (list_all is_ascii_digit ds) all_d in
    let there = and_parts (is_ascii_digit e) (list_all is_ascii_digit es) all_e in
    let rest = same_digits (n * 10 + (d - 48)) (m * 10 + (e - 48)) ds es (omega arith) here.1 there.1 same in
    let first = digit d here.0 in
    let second = digit e there.0 in
    let one : d ≡ e = omega (arith, rest.0, first.least, first.most, second.least, second.most) in
    let before : n ≡ m = omega (arith, rest.0, first.least, first.most, second.least, second.most) in
    (before, ap (λ c. c ∷ ds) one ∙ ap (λ l. e ∷ l) rest.1)

-- digits after a number that isn't 0 have another value than fewer digits, or as many
greater : (n : ℕ) (ds es : List ℕ) → 1 ≤ n → length ds ≤ length es → list_all is_ascii_digit ds ≡ true → list_all is_ascii_digit es ≡ true → value_after 0 ds ≢ value_after n es
greater n ds [] some short all_d all_e same = no_digits ds short same
  where
    no_digits : (ds : List ℕ) → length ds ≤ 0 → value_after 0 ds ≡ n → ⊥
    no_digits [] short same = omega arith
    no_digits (d ∷ ds) short same = omega arith
greater n ds (e ∷ es) some short all_d all_e same =
    by_bool (eqb (length ds) (length (e ∷ es)))
    (λ long. let one = same_digits 0 n ds (e ∷ es) (eqb-true (length ds) (length (e ∷ es)) long) all_d all_e same in omega (arith, one.0))
    (λ other.
    let less : length ds ≢ length (e ∷ es) = eqb-false (length ds) (length (e ∷ es)) other in
    greater (n * 10 + (e - 48)) ds es (omega arith) (omega (arith, less)) all_d (and_parts (is_ascii_digit e) (list_all is_ascii_digit es) all_e).1 same)

record IsDecimal (digits : List ℕ) : Type 0 where
  some : 0 < length digits
  first : (eqb (length digits) 1 || not (eqb (slice_index digits 0) 48)) ≡ true
  all : list_all is_ascii_digit digits ≡ true

decimal : (digits : List ℕ) → is_decimal digits ≡ true → IsDecimal digits
decimal digits e =
    let both = and_parts (nat_lt 0 (length digits) && (eqb (length digits) 1 || not (eqb (slice_index digits 0) 48))) (list_all is_ascii_digit digits) e in
    let front = and_parts (nat_lt 0 (length digits)) (eqb (length digits) 1 || not (eqb (slice_index digits 0) 48)) both.0 in
    record { some = ltb-true 0 (length digits) front.0; first = front.1; all = both.1 }

-- a number with more digits begins with one that isn't 0
longer : (ds es : List ℕ) → IsDecimal ds → IsDecimal es → length ds < length es → value_after 0 ds ≢ value_after 0 es
longer ds [] d e more same = absurd (omega arith)
longer ds (c ∷ es) d e more same =
    let first : IsDigit c = digit c (and_parts (is_ascii_digit c) (list_all is_ascii_digit es) e.all).0 in
    by_bool (eqb c 48)
    (λ zero'.
    by_bool (eqb (length (c ∷ es)) 1)
    (λ alone. let one = eqb-true (length (c ∷ es)) 1 alone in absurd (omega (arith, one, d.some)))
    (λ long. let no : false ≡ true = sym (ap (λ b. b || not (eqb c 48)) long ∙ ap not zero') ∙ e.first in absurd (cc)))
    (λ other.
    let off : c ≢ 48 = eqb-false c 48 other in
    greater (0 * 10 + (c - 48)) ds es (omega (arith, off, first.least)) (omega arith) d.all (and_parts (is_ascii_digit c) (list_all is_ascii_digit es) e.all).1 same)

one_decimal : (ds es : List ℕ) → IsDecimal ds → IsDecimal es → value_after 0 ds ≡ value_after 0 es → ds ≡ es
one_decimal ds es d e same =
    by_bool (nat_lt (length ds) (length es))
    (λ more. absurd (longer ds es d e (ltb-true (length ds) (length es) more) same))
    (λ no.
    by_bool (nat_lt (length es) (length ds))
    (λ more. absurd (longer es ds e d (ltb-true (length es) (length ds) more) (sym same)))
    (λ no'. (same_digits 0 0 ds es (omega (arith, ltb-false (length ds) (length es) no, ltb-false (length es) (length ds) no')) d.all e.all same).1))

-- digits that name a place
record ArePlace (digits : List ℕ) (place : ℕ) : Type 0 where
  decimal_is : IsDecimal digits
  value_is : value_after 0 digits + 1 ≡ place

place_spelled : (digits : List ℕ) (place : ℕ) → place_of digits ≡ Some place → ArePlace digits place
unfolding place_of
place_spelled digits place e = either (is_decimal digits && nat_le (value_after 0 digits) 9999) refl e
  where
    either : (b : Bool) → (is_decimal digits && nat_le (value_after 0 digits) 9999) ≡ b → option_map (λ number. number + 1) (cond b (Some (value_after 0 digits)) None) ≡ Some place → ArePlace digits place
    either true fine e = record { decimal_is = decimal digits (and_parts (is_decimal digits) (nat_le (value_after 0 digits) 9999) fine).0; value_is = cc }
    either false fine e = absurd (cc)

one_place : (ds es : List ℕ) (place : ℕ) → place_of ds ≡ Some place → place_of es ≡ Some place → ds ≡ es
one_place ds es place d e =
    let here = place_spelled ds place d in
    let there = place_spelled es place e in
    one_decimal ds es here.decimal_is there.decimal_is (omega (arith, here.value_is, there.value_is))

-- ---- numbered parts

and_then_some : {A B : Type 0} (f : A → Option B) (o : Option A) (y : B) → option_and_then f o ≡ Some y → (x : A) × (o ≡ Some x) × (f x ≡ Some y)
and_then_some f None y e = absurd (cc)
and_then_some f (Some x) y e = (x, refl, e)

-- a point between digits that name the place and the part
record IsNumbered (text : List ℕ) (part : Part) : Type 0 where
  digits : List ℕ
  place_is : place_of digits ≡ Some part.0
  text_is : text ≡ digits ++ 46 ∷ part.1

-- the two sides of a point, where there is one
abbrev cut_given : List ℕ → Bool → Option (List ℕ × List ℕ)
cut_given text b = cond b (Some (before_first is_point text, after_first is_point text)) None

numbered_spelled : (text : List ℕ) (part : Part) → numbered text ≡ Some part → IsNumbered text part
unfolding numbered
numbered_spelled text part e = either (nat_lt (position_or_len is_point text) (length text)) refl e
  where
    digits : List ℕ
    digits = before_first is_point text

    rest : List ℕ
    rest = after_first is_point text

    at : (place : Option ℕ) → place_of digits ≡ place → position_or_len is_point text < length text → at_place rest place ≡ Some part → IsNumbered text part
    at None placed within e = absurd (cc)
    at (Some n) placed within e =
        let point : get_or text (position_or_len is_point text) 0 ≡ 46 = eqb-true _ 46 (passes_at_first is_point text 0 within) in
        let whole : Part = (n, rest) in
        let same : whole ≡ part = same_Some whole part e in
        record {
          digits = digits;
          place_is = placed ∙ ap (λ (p : Part). Some p.0) same;
          text_is = split_at_first is_point text 0 within ∙ ap (λ c. digits ++ c ∷ rest) point ∙ ap (λ (p : Part). digits ++ 46 ∷ p.1) same;
        }

    either : (b : Bool) → nat_lt (position_or_len is_point text) (length text) ≡ b → option_and_then (λ (cut : List ℕ × List ℕ). at_place cut.1 (place_of cut.0)) (cut_given text b) ≡ Some part → IsNumbered text part
    either true within e = at (place_of digits) refl (ltb-true (position_or_len is_point text) (length text) within) e
    either false within e = absurd (cc)

one_numbered : (t u : List ℕ) (part : Part) → numbered t ≡ Some part → numbered u ≡ Some part → t ≡ u
one_numbered t u part e f =
    let here = numbered_spelled t part e in
    let there = numbered_spelled u part f in
    here.text_is ∙ ap (λ digits. digits ++ 46 ∷ part.1) (one_place here.digits there.digits part.0 here.place_is there.place_is) ∙ sym there.text_is

known_is : (test : List ℕ → Bool) (o : Option Part) (part : Part) → known test o ≡ Some part → o ≡ Some part
known_is test None part e = absurd (cc)
known_is test (Some given) part e = either (test given.1) e
  where
    either : (b : Bool) → cond b (Some given) None ≡ Some part → Some given ≡ Some part
    either true e = e
    either false e = absurd (cc)

-- names whose rest behind the list's word is a numbered part
one_behind : (front n m : List ℕ) (part : Part) → option_and_then numbered (after_prefix front n) ≡ Some part → option_and_then numbered (after_prefix front m) ≡ Some part → n ≡ m
one_behind front n m part e f =
    let here = and_then_some numbered (after_prefix front n) part e in
    let there = and_then_some numbered (after_prefix front m) part f in
    after_prefix-is front n here.0 here.1
    ∙ ap (λ rest. front ++ rest) (one_numbered here.0 there.0 part here.2 there.2)
    ∙ sym (after_prefix-is front m there.0 there.1)

one_attribute : (n m : List ℕ) (part : Part) → attribute_part n ≡ Some part → attribute_part m ≡ Some part → n ≡ m
unfolding attribute_part
one_attribute n m part e f = one_behind (codes "Attribute.") n m part (known_is is_attribute_part _ part e) (known_is is_attribute_part _ part f)

one_item : (n m : List ℕ) (part : Part) → item_part n ≡ Some part → item_part m ≡ Some part → n ≡ m
unfolding item_part
one_item n m part e f = one_behind (codes "Item.") n m part (known_is is_item_part _ part e) (known_is is_item_part _ part f)

-- ---- names without a part, and names without a number

bytes_same : (a b : List ℕ) → bytes_eq a b ≡ true → a ≡ b
bytes_same a b e = (bytes_eq-Decides a b).0 e

-- a number alone behind the list's word
record IsCounted (front name : List ℕ) (place : ℕ) : Type 0 where
  digits : List ℕ
  front_is : after_prefix front name ≡ Some digits
  place_is : place_of digits ≡ Some place

counted : (front name called : List ℕ) (part : Part) → at_place called (option_and_then place_of (after_prefix front name)) ≡ Some part → IsCounted front name part.0
counted front name called part e = at (option_and_then place_of (after_prefix front name)) refl e
  where
    at : (o : Option ℕ) → option_and_then place_of (after_prefix front name) ≡ o → at_place called o ≡ Some part → IsCounted front name part.0
    at None placed e = absurd (cc)
    at (Some n) placed e =
        let whole : Part = (n, called) in
        let same : whole ≡ part = same_Some whole part e in
        let found = and_then_some place_of (after_prefix front name) n placed in
        record { digits = found.0; front_is = found.1; place_is = found.2 ∙ ap (λ (p : Part). Some p.0) same }

some_place : (digits : List ℕ) (place : ℕ) → place_of digits ≡ Some place → 1 ≤ place
some_place digits place e = let is = place_spelled digits place e in omega (arith, is.value_is)

bare : List ℕ
bare = codes "AttributeName"

front_of_names : List ℕ
front_of_names = codes "AttributeName."

-- what a name is where it is the bare one, and where it isn't
abbrev name_given : List ℕ → Bool → Option Part
name_given name b = cond b (Some (0, codes "Name")) (at_place (codes "Name") (option_and_then place_of (after_prefix front_of_names name)))

not_bare : (name : List ℕ) (part : Part) → name_given name false ≡ Some part → name_given name true ≡ Some part → ⊥
not_bare name part e f =
    let whole : Part = (0, codes "Name") in
    let at = counted front_of_names name (codes "Name") part e in
    let zero' : 0 ≡ part.0 = ap (λ (p : Part). p.0) (same_Some whole part f) in
    let some = some_place at.digits part.0 at.place_is in
    omega (arith, zero', some)

one_given : (n m : List ℕ) (part : Part) (b c : Bool) → bytes_eq n bare ≡ b → bytes_eq m bare ≡ c → name_given n b ≡ Some part → name_given m c ≡ Some part → n ≡ m
one_given n m part true true bn bm e f = bytes_same n bare bn ∙ sym (bytes_same m bare bm)
one_given n m part true false bn bm e f = absurd (not_bare m part f e)
one_given n m part false true bn bm e f = absurd (not_bare n part e f)
one_given n m part false false bn bm e f =
    let here = counted front_of_names n (codes "Name") part e in
    let there = counted front_of_names m (codes "Name") part f in
    after_prefix-is front_of_names n here.digits here.front_is
    ∙ ap (λ digits. front_of_names ++ digits) (one_place here.digits there.digits part.0 here.place_is there.place_is)
    ∙ sym (after_prefix-is front_of_names m there.digits there.front_is)

one_name : (n m : List ℕ) (part : Part) → name_part n ≡ Some part → name_part m ≡ Some part → n ≡ m
unfolding name_part bare front_of_names
one_name n m part e f = one_given n m part (bytes_eq n bare) (bytes_eq m bare) refl refl e f

-- what the rest of an expectation's name is where it is a part, and where it isn't
abbrev rest_given : List ℕ → Bool → Option Part
rest_given rest b = cond b (Some (0, rest)) (known is_expected_part (numbered rest))

not_part : (rest other : List ℕ) (part : Part) → rest_given rest false ≡ Some part → rest_given other true ≡ Some part → ⊥
not_part rest other part e f =
    let whole : Part = (0, other) in
    let at = numbered_spelled rest part (known_is is_expected_part (numbered rest) part e) in
    let zero' : 0 ≡ part.0 = ap (λ (p : Part). p.0) (same_Some whole part f) in
    let some = some_place at.digits part.0 at.place_is in
    omega (arith, zero', some)

one_rest : (r s : List ℕ) (part : Part) (b c : Bool) → rest_given r b ≡ Some part → rest_given s c ≡ Some part → r ≡ s
one_rest r s part true true e f =
    let here : Part = (0, r) in
    let there : Part = (0, s) in
    ap (λ (p : Part). p.1) (same_Some here part e) ∙ sym (ap (λ (p : Part). p.1) (same_Some there part f))
one_rest r s part true false e f = absurd (not_part s r part f e)
one_rest r s part false true e f = absurd (not_part r s part e f)
one_rest r s part false false e f = one_numbered r s part (known_is is_expected_part (numbered r) part e) (known_is is_expected_part (numbered s) part f)

one_expected : (n m : List ℕ) (part : Part) → expected_part n ≡ Some part → expected_part m ≡ Some part → n ≡ m
unfolding expected_part
one_expected n m part e f =
    let here = and_then_some expected_rest (after_prefix (codes "Expected.") n) part e in
    let there = and_then_some expected_rest (after_prefix (codes "Expected.") m) part f in
    after_prefix-is (codes "Expected.") n here.0 here.1
    ∙ ap (λ rest. codes "Expected." ++ rest) (one_rest here.0 there.0 part (is_expected_part here.0) (is_expected_part there.0) here.2 there.2)
    ∙ sym (after_prefix-is (codes "Expected.") m there.0 there.1)

-- two names that are the same part of one entry are one name
pub one_part_name : (kind : EntryKind) (n m : List ℕ) (part : Part) → part_of kind n ≡ Some part → part_of kind m ≡ Some part → n ≡ m
one_part_name Attribute n m part e f = one_attribute n m part e f
one_part_name AttributeName n m part e f = one_name n m part e f
one_part_name Expected n m part e f = one_expected n m part e f
one_part_name Item n m part e f = one_item n m part e f
