-- What stands at the front of a text is what the tests give, and nothing else.
use Rattle.std.proofs.Common.{◌≡◌, ℕ, suc, ◌+◌, Bool, true, false, cond, not, ◌&&◌, ◌||◌, ◌==◌, List, [], ◌∷◌, ◌++◌, length, drop, Option, None, Some, refl, sym, ap, ◌∙◌, subst, arith, true≢false, eqb-true, length-append, append_assoc}
use Rattle.std.proofs.lemmas.Bool.Decides.{nat_tests}
use Rattle.std.specs.Char.{is_ascii_digit}
use Rattle.std.specs.List.{list_all}
use Rattle.sdb_lex.specs.declared.front.Front.{Front}
use Rattle.sdb_lex.specs.declared.front.Front.TheVariants as front
use Rattle.sdb_lex.specs.declared.token.Kind.{Kind}
use Rattle.sdb_lex.specs.declared.token.Kind.TheVariants as kind
use Rattle.sdb_lex.specs.Bytes.{blank, word, sign, plain, comparing, begins, run}
use Rattle.sdb_lex.specs.Fronts.{closing, enclosed_with, enclosed_front, digits_front, symbol_front, front_of}
use Rattle.sdb_lex.specs.Tokens.{doubled, is_known, IsToken, a_word, digits, quoted, ticked, one_sign, ordering, with_equals, Begins, nothing, separated, token, spoiled, empty_name, unknown, lone_not, unclosed}
use Rattle.sdb_lex.proofs.ByteLemmas.{choose, chosen, passed, first_of_and, none_of_or, digit_isnt_blank, word_isnt_blank, sign_isnt_blank, sign_isnt_word, plain_isnt_blank, plain_isnt_word, plain_isnt_sign, comparing_isnt_blank, comparing_isnt_word, comparing_isnt_sign, comparing_isnt_plain, order_is_comparing, order_isnt_not, order_else, quote_is_sign, quote_isnt_tick, quote_else, digit_unless_word, run_is, run_parts, closes, stays_open, Enclosed, left, shut, enclosed}

-- ---- what the tests give stands there

unless_not : (b : Bool) → not b ≡ true → b ≡ false
unless_not true h = sym h
unless_not false h = refl

only_not : (b : Bool) → not b ≡ false → b ≡ true
only_not true h = refl
only_not false h = sym h

-- the choice after a run of digits
abbrev after_digits : List ℕ → ℕ → Front
after_digits text n = cond (begins word (drop n text)) (front.Bad n) (front.Piece kind.Digits n)

digits_are : (b : ℕ) (rest : List ℕ) → is_ascii_digit b ≡ true → Begins (b ∷ rest) (digits_front (b ∷ rest))
digits_are b rest d =
    let r = run_parts is_ascii_digit rest in
    let n = run is_ascii_digit rest in
    let longer : run is_ascii_digit (b ∷ rest) ≡ suc n = chosen (suc n) 0 d in
    let all : list_all is_ascii_digit (b ∷ r.front) ≡ true = ap (λ x. x && list_all is_ascii_digit r.front) d ∙ r.all in
    let text : b ∷ rest ≡ (b ∷ r.front) ++ r.rest = ap (λ l. b ∷ l) r.parts in
    subst (λ m. Begins (b ∷ rest) (after_digits (b ∷ rest) m)) (sym longer)
    (choose (Begins (b ∷ rest)) (begins word (drop n rest)) (front.Bad (suc n)) (front.Piece kind.Digits (suc n))
    (λ t. subst (λ m. Begins (b ∷ rest) (front.Bad (suc m))) (sym r.count)
    (spoiled b r.front r.rest all r.stops (ap (begins word) (sym r.dropped) ∙ t) (b ∷ rest) text))
    (λ f. subst (λ m. Begins (b ∷ rest) (front.Piece kind.Digits (suc m))) (sym r.count)
    (token kind.Digits (b ∷ r.front) r.rest (digits b r.front r.rest all (ap (begins word) (sym r.dropped) ∙ f)) (b ∷ rest) text)))

word_is : (b : ℕ) (rest : List ℕ) → is_ascii_digit b ≡ false → word b ≡ true → Begins (b ∷ rest) (front.Piece kind.Word (run word (b ∷ rest)))
word_is b rest nd w =
    let r = run_parts word rest in
    let longer : run word (b ∷ rest) ≡ suc (run word rest) = chosen (suc (run word rest)) 0 w in
    subst (λ m. Begins (b ∷ rest) (front.Piece kind.Word m)) (sym (longer ∙ ap suc r.count))
    (token kind.Word (b ∷ r.front) r.rest (a_word b r.front r.rest nd (ap (λ x. x && list_all word r.front) w ∙ r.all) r.stops) (b ∷ rest) (ap (λ l. b ∷ l) r.parts))

-- the length of what stands between signs, with both
both_signs : (s : ℕ) (d : List ℕ) → length (s ∷ (d ++ s ∷ [])) ≡ 1 + suc (length d)
both_signs s d = omega (arith, length-append d (s ∷ []))

name_isnt_empty : (b : ℕ) (inner : List ℕ) → (suc (length (doubled 96 (b ∷ inner))) == 1) ≡ false
name_isnt_empty b inner = choose (λ l. (suc (length l) == 1) ≡ false) (b == 96) (96 ∷ 96 ∷ doubled 96 inner) (b ∷ doubled 96 inner) (λ t. more_than_one (96 ∷ doubled 96 inner)) (λ f. more_than_one (doubled 96 inner))
  where
    more_than_one : (l : List ℕ) → (suc (suc (length l)) == 1) ≡ false
    more_than_one l = grind (arith, nat_tests)

ticked_is : (rest inner tail : List ℕ) → rest ≡ doubled 96 inner ++ 96 ∷ tail → begins (λ c. c == 96) tail ≡ false
    → Begins (96 ∷ rest) (cond (suc (length (doubled 96 inner)) == 1) (front.Bad 0) (front.Piece kind.Ticked (1 + suc (length (doubled 96 inner)))))
ticked_is rest [] tail e stops = subst (λ l. Begins (96 ∷ l) (front.Bad 0)) (sym e) (empty_name tail stops)
ticked_is rest (b ∷ inner) tail e stops =
    let d = doubled 96 (b ∷ inner) in
    subst (Begins (96 ∷ rest)) (sym (passed (front.Bad 0) (front.Piece kind.Ticked (1 + suc (length d))) (name_isnt_empty b inner)))
    (subst (λ n. Begins (96 ∷ rest) (front.Piece kind.Ticked n)) (both_signs 96 d)
    (token kind.Ticked (96 ∷ (d ++ 96 ∷ [])) tail (ticked b inner tail stops) (96 ∷ rest) (ap (λ l. 96 ∷ l) (e ∙ sym (append_assoc d (96 ∷ []) tail)))))

enclosed_is : (s : ℕ) (rest : List ℕ) (o : Option ℕ) → sign s ≡ true → Enclosed s rest o → Begins (s ∷ rest) (enclosed_with s o)
enclosed_is s rest None is (left inner e) = unclosed s inner is (s ∷ rest) (ap (λ l. s ∷ l) e)
enclosed_is s rest (Some _) is (shut inner tail e stops) =
    let d = doubled s inner in
    let n = suc (length d) in
    choose (Begins (s ∷ rest)) (not (s == 96)) (front.Piece kind.Quoted (1 + n)) (cond (n == 1) (front.Bad 0) (front.Piece kind.Ticked (1 + n)))
    (λ t.
    subst (λ m. Begins (s ∷ rest) (front.Piece kind.Quoted m)) (both_signs s d)
    (token kind.Quoted (s ∷ (d ++ s ∷ [])) tail (quoted s inner tail (quote_else s is (unless_not (s == 96) t)) stops) (s ∷ rest) (ap (λ l. s ∷ l) (e ∙ sym (append_assoc d (s ∷ []) tail)))))
    (λ f.
    let tick : s ≡ 96 = eqb-true s 96 (only_not (s == 96) f) in
    subst (λ x. rest ≡ doubled x inner ++ x ∷ tail → begins (λ b. b == x) tail ≡ false → Begins (x ∷ rest) (cond (suc (length (doubled x inner)) == 1) (front.Bad 0) (front.Piece kind.Ticked (1 + suc (length (doubled x inner)))))) (sym tick)
    (ticked_is rest inner tail) e stops)

none_known : (b : ℕ) → blank b ≡ false → word b ≡ false → sign b ≡ false → plain b ≡ false → comparing b ≡ false → is_known b ≡ false
none_known b h j k l m = λ i. h i || j i || k i || l i || m i

equals_next : (b : ℕ) (rest : List ℕ) → comparing b ≡ true → begins (λ c. c == 61) rest ≡ true → Begins (b ∷ rest) (front.Piece kind.Symbol 2)
equals_next b [] c h = absurd (true≢false (sym h))
equals_next b (e ∷ es) c h =
    let is : e ≡ 61 = eqb-true e 61 h in
    token kind.Symbol (b ∷ 61 ∷ []) es (with_equals b es c) (b ∷ e ∷ es) (ap (λ x. b ∷ x ∷ es) is)

symbol_is : (b : ℕ) (rest : List ℕ) → blank b ≡ false → word b ≡ false → sign b ≡ false → Begins (b ∷ rest) (symbol_front b rest)
symbol_is b rest nb nw ns =
    let alone = cond (b == 33) (front.Bad 0) (front.Piece kind.Symbol 1) in
    let compared = cond (begins (λ c. c == 61) rest) (front.Piece kind.Symbol 2) alone in
    choose (Begins (b ∷ rest)) (plain b) (front.Piece kind.Symbol 1) (cond (not (comparing b)) (front.Bad 0) compared)
    (λ p. token kind.Symbol (b ∷ []) rest (one_sign b rest p) (b ∷ rest) refl)
    (λ np. choose (Begins (b ∷ rest)) (not (comparing b)) (front.Bad 0) compared
    (λ nc. unknown b rest (none_known b nb nw ns np (unless_not (comparing b) nc)))
    (λ c. choose (Begins (b ∷ rest)) (begins (λ c. c == 61) rest) (front.Piece kind.Symbol 2) alone
    (λ e. equals_next b rest (only_not (comparing b) c) e)
    (λ ne. choose (Begins (b ∷ rest)) (b == 33) (front.Bad 0) (front.Piece kind.Symbol 1)
    (λ x. subst (λ y. Begins (y ∷ rest) (front.Bad 0)) (sym (eqb-true b 33 x)) (lone_not rest ne))
    (λ nx. token kind.Symbol (b ∷ []) rest (ordering b rest (order_else b (only_not (comparing b) c) nx) ne) (b ∷ rest) refl))))

pub front_is : (text : List ℕ) → Begins text (front_of text)
front_is [] = nothing
front_is (b ∷ rest) =
    choose (Begins (b ∷ rest)) (blank b) front.Blank _
    (λ t. separated b rest t)
    (λ nb. choose (Begins (b ∷ rest)) (is_ascii_digit b) (digits_front (b ∷ rest)) _
    (λ d. digits_are b rest d)
    (λ nd. choose (Begins (b ∷ rest)) (word b) (front.Piece kind.Word (run word (b ∷ rest))) _
    (λ w. word_is b rest nd w)
    (λ nw. choose (Begins (b ∷ rest)) (sign b) (enclosed_front b rest) (symbol_front b rest)
    (λ s. enclosed_is b rest (closing b false rest) s (enclosed b rest))
    (λ ns. symbol_is b rest nb nw ns))))

-- ---- nothing else does

digit_front : (b : ℕ) (rest : List ℕ) → is_ascii_digit b ≡ true → front_of (b ∷ rest) ≡ digits_front (b ∷ rest)
digit_front b rest d = passed _ _ (digit_isnt_blank b d) ∙ chosen _ _ d

word_front : (b : ℕ) (rest : List ℕ) → is_ascii_digit b ≡ false → word b ≡ true → front_of (b ∷ rest) ≡ front.Piece kind.Word (run word (b ∷ rest))
word_front b rest nd w = passed _ _ (word_isnt_blank b w) ∙ passed _ _ nd ∙ chosen _ _ w

sign_front : (b : ℕ) (rest : List ℕ) → sign b ≡ true → front_of (b ∷ rest) ≡ enclosed_front b rest
sign_front b rest s =
    let nw = sign_isnt_word b s in
    passed _ _ (sign_isnt_blank b s) ∙ passed _ _ (digit_unless_word b nw) ∙ passed _ _ nw ∙ chosen _ _ s

other_front : (b : ℕ) (rest : List ℕ) → blank b ≡ false → word b ≡ false → sign b ≡ false → front_of (b ∷ rest) ≡ symbol_front b rest
other_front b rest nb nw ns = passed _ _ nb ∙ passed _ _ (digit_unless_word b nw) ∙ passed _ _ nw ∙ passed _ _ ns

compared_front : (b : ℕ) (rest : List ℕ) → comparing b ≡ true → front_of (b ∷ rest) ≡ cond (begins (λ c. c == 61) rest) (front.Piece kind.Symbol 2) (cond (b == 33) (front.Bad 0) (front.Piece kind.Symbol 1))
compared_front b rest c =
    other_front b rest (comparing_isnt_blank b c) (comparing_isnt_word b c) (comparing_isnt_sign b c)
    ∙ passed _ _ (comparing_isnt_plain b c)
    ∙ passed _ _ (ap not c)

-- a run of digits that stops at a byte of words stops at a digit no less
stops_sooner : (rest : List ℕ) → begins word rest ≡ false → begins is_ascii_digit rest ≡ false
stops_sooner [] h = refl
stops_sooner (b ∷ bs) h = digit_unless_word b h

dropped : (xs ys : List ℕ) → drop (length xs) (xs ++ ys) ≡ ys
dropped [] ys = refl
dropped (x ∷ xs) ys = dropped xs ys

enclosed_length : (s : ℕ) (inner rest : List ℕ) → begins (λ b. b == s) rest ≡ false → closing s false ((doubled s inner ++ s ∷ []) ++ rest) ≡ Some (suc (length (doubled s inner)))
enclosed_length s inner rest stops = ap (closing s false) (append_assoc (doubled s inner) (s ∷ []) rest) ∙ closes s inner rest stops

token_only : (k : Kind) (piece rest : List ℕ) → IsToken k piece rest → front.Piece k (length piece) ≡ front_of (piece ++ rest)
token_only _ _ _ (a_word b bs rest nd all stops) =
    sym (word_front b (bs ++ rest) nd (first_of_and (word b) (list_all word bs) all) ∙ ap (front.Piece kind.Word) (run_is word (b ∷ bs) rest all stops))
token_only _ _ _ (digits b bs rest all stops) =
    let count : run is_ascii_digit ((b ∷ bs) ++ rest) ≡ length (b ∷ bs) = run_is is_ascii_digit (b ∷ bs) rest all (stops_sooner rest stops) in
    sym (digit_front b (bs ++ rest) (first_of_and (is_ascii_digit b) (list_all is_ascii_digit bs) all)
    ∙ ap (after_digits ((b ∷ bs) ++ rest)) count
    ∙ passed (front.Bad (length (b ∷ bs))) (front.Piece kind.Digits (length (b ∷ bs))) (ap (begins word) (dropped (b ∷ bs) rest) ∙ stops))
token_only _ _ _ (quoted s inner rest q stops) =
    let n = suc (length (doubled s inner)) in
    sym (sign_front s ((doubled s inner ++ s ∷ []) ++ rest) (quote_is_sign s q)
    ∙ ap (enclosed_with s) (enclosed_length s inner rest stops)
    ∙ chosen (front.Piece kind.Quoted (1 + n)) (cond (n == 1) (front.Bad 0) (front.Piece kind.Ticked (1 + n))) (ap not (quote_isnt_tick s q))
    ∙ ap (front.Piece kind.Quoted) (sym (both_signs s (doubled s inner))))
token_only _ _ _ (ticked b inner rest stops) =
    let d = doubled 96 (b ∷ inner) in
    sym (ap (enclosed_with 96) (enclosed_length 96 (b ∷ inner) rest stops)
    ∙ passed (front.Bad 0) (front.Piece kind.Ticked (1 + suc (length d))) (name_isnt_empty b inner)
    ∙ ap (front.Piece kind.Ticked) (sym (both_signs 96 d)))
token_only _ _ _ (one_sign b rest p) =
    sym (other_front b rest (plain_isnt_blank b p) (plain_isnt_word b p) (plain_isnt_sign b p) ∙ chosen _ _ p)
token_only _ _ _ (ordering b rest o stops) =
    sym (compared_front b rest (order_is_comparing b o) ∙ passed _ _ stops ∙ passed _ _ (order_isnt_not b o))
token_only _ _ _ (with_equals b rest c) = sym (compared_front b (61 ∷ rest) c)

pub front_only : (text : List ℕ) (f : Front) → Begins text f → f ≡ front_of text
front_only _ _ nothing = refl
front_only _ _ (separated b rest t) = sym (chosen _ _ t)
front_only _ _ (token k piece rest is text e) = token_only k piece rest is ∙ ap front_of (sym e)
front_only _ _ (spoiled b bs rest all stops spoils text e) =
    let count : run is_ascii_digit ((b ∷ bs) ++ rest) ≡ length (b ∷ bs) = run_is is_ascii_digit (b ∷ bs) rest all stops in
    sym (ap front_of e
    ∙ digit_front b (bs ++ rest) (first_of_and (is_ascii_digit b) (list_all is_ascii_digit bs) all)
    ∙ ap (after_digits ((b ∷ bs) ++ rest)) count
    ∙ chosen (front.Bad (length (b ∷ bs))) (front.Piece kind.Digits (length (b ∷ bs))) (ap (begins word) (dropped (b ∷ bs) rest) ∙ spoils))
front_only _ _ (empty_name rest stops) = sym (ap (enclosed_with 96) (closes 96 [] rest stops))
front_only _ _ (unknown b rest h) =
    let last = none_of_or (blank b || word b || sign b || plain b) (comparing b) h in
    let fourth = none_of_or (blank b || word b || sign b) (plain b) last.0 in
    let third = none_of_or (blank b || word b) (sign b) fourth.0 in
    let second = none_of_or (blank b) (word b) third.0 in
    sym (other_front b rest second.0 second.1 third.1 ∙ passed _ _ fourth.1 ∙ chosen _ _ (ap not last.1))
front_only _ _ (lone_not rest stops) = sym (compared_front 33 rest refl ∙ passed _ _ stops)
front_only _ _ (unclosed s inner is text e) =
    sym (ap front_of e ∙ sign_front s (doubled s inner) is ∙ ap (enclosed_with s) (stays_open s inner))
