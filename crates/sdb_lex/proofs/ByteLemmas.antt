-- Which classes of bytes are apart, runs of bytes, and what stands between signs.
use Rattle.std.proofs.Common.{◌≡◌, ℕ, suc, Bool, true, false, cond, not, ◌&&◌, ◌||◌, ◌==◌, List, [], ◌∷◌, ◌++◌, length, drop, Option, None, Some, option_map, refl, sym, ap, ◌∙◌, subst, arith, true≢false, eqb-true}
use Rattle.std.proofs.lemmas.Bool.Decides.{nat_tests}
use Rattle.std.specs.Char.{is_ascii_digit}
use Rattle.std.specs.List.{list_all}
use Rattle.sdb_base.proofs.Cases.{by_bool}
use Rattle.sdb_lex.specs.Bytes.{blank, word, quote, sign, plain, order, comparing, begins, run}
use Rattle.sdb_lex.specs.Fronts.{closing}
use Rattle.sdb_lex.specs.Tokens.{doubled}

-- a fact on a choice from facts on both sides
pub choose : {X : Type 0} (P : X → Type 0) (b : Bool) (x y : X) → (b ≡ true → P x) → (b ≡ false → P y) → P (cond b x y)
choose P true x y t f = t refl
choose P false x y t f = f refl

pub chosen : {X : Type 0} {b : Bool} (x y : X) → b ≡ true → cond b x y ≡ x
chosen x y e = ap (λ b. cond b x y) e

pub passed : {X : Type 0} {b : Bool} (x y : X) → b ≡ false → cond b x y ≡ y
passed x y e = ap (λ b. cond b x y) e

pub first_of_and : (a b : Bool) → (a && b) ≡ true → a ≡ true
first_of_and true b h = refl
first_of_and false b h = h

pub second_of_and : (a b : Bool) → (a && b) ≡ true → b ≡ true
second_of_and true b h = h
second_of_and false b h = absurd (true≢false (sym h))

pub same_eqb : (s : ℕ) → (s == s) ≡ true
same_eqb s = grind (arith, nat_tests)

-- ---- classes

pub digit_isnt_blank : (b : ℕ) → is_ascii_digit b ≡ true → blank b ≡ false
digit_isnt_blank b h = grind (arith, nat_tests)

pub word_isnt_blank : (b : ℕ) → word b ≡ true → blank b ≡ false
word_isnt_blank b h = grind (arith, nat_tests)

pub digit_is_word : (b : ℕ) → is_ascii_digit b ≡ true → word b ≡ true
digit_is_word b h = grind (arith, nat_tests)

pub sign_isnt_blank : (b : ℕ) → sign b ≡ true → blank b ≡ false
sign_isnt_blank b h = grind (arith, nat_tests)

pub sign_isnt_word : (b : ℕ) → sign b ≡ true → word b ≡ false
sign_isnt_word b h = grind (arith, nat_tests)

pub plain_isnt_blank : (b : ℕ) → plain b ≡ true → blank b ≡ false
plain_isnt_blank b h = grind (arith, nat_tests)

pub plain_isnt_word : (b : ℕ) → plain b ≡ true → word b ≡ false
plain_isnt_word b h = grind (arith, nat_tests)

pub plain_isnt_sign : (b : ℕ) → plain b ≡ true → sign b ≡ false
plain_isnt_sign b h = grind (arith, nat_tests)

pub comparing_isnt_blank : (b : ℕ) → comparing b ≡ true → blank b ≡ false
comparing_isnt_blank b h = grind (arith, nat_tests)

pub comparing_isnt_word : (b : ℕ) → comparing b ≡ true → word b ≡ false
comparing_isnt_word b h = grind (arith, nat_tests)

pub comparing_isnt_sign : (b : ℕ) → comparing b ≡ true → sign b ≡ false
comparing_isnt_sign b h = grind (arith, nat_tests)

pub comparing_isnt_plain : (b : ℕ) → comparing b ≡ true → plain b ≡ false
comparing_isnt_plain b h = grind (arith, nat_tests)

pub order_is_comparing : (b : ℕ) → order b ≡ true → comparing b ≡ true
order_is_comparing b h = grind (arith, nat_tests)

pub order_isnt_not : (b : ℕ) → order b ≡ true → (b == 33) ≡ false
order_isnt_not b h = grind (arith, nat_tests)

pub order_else : (b : ℕ) → comparing b ≡ true → (b == 33) ≡ false → order b ≡ true
order_else b h n = grind (arith, nat_tests)

pub quote_is_sign : (b : ℕ) → quote b ≡ true → sign b ≡ true
quote_is_sign b h = grind (arith, nat_tests)

pub quote_isnt_tick : (b : ℕ) → quote b ≡ true → (b == 96) ≡ false
quote_isnt_tick b h = grind (arith, nat_tests)

pub quote_else : (b : ℕ) → sign b ≡ true → (b == 96) ≡ false → quote b ≡ true
quote_else b h n = grind (arith, nat_tests)

pub none_of_or : (a b : Bool) → (a || b) ≡ false → (a ≡ false) × (b ≡ false)
none_of_or true b h = absurd (true≢false h)
none_of_or false b h = (refl, h)

-- a digit is a byte of words
pub digit_unless_word : (b : ℕ) → word b ≡ false → is_ascii_digit b ≡ false
digit_unless_word b h = by_bool (is_ascii_digit b) (λ d. absurd (true≢false (sym (digit_is_word b d) ∙ h))) (λ n. n)

-- ---- runs

pub run_is : (p : ℕ → Bool) (bs rest : List ℕ) → list_all p bs ≡ true → begins p rest ≡ false → run p (bs ++ rest) ≡ length bs
run_is p [] [] all stops = refl
run_is p [] (c ∷ cs) all stops = passed (suc (run p cs)) 0 stops
run_is p (b ∷ bs) rest all stops =
    chosen (suc (run p (bs ++ rest))) 0 (first_of_and (p b) (list_all p bs) all)
    ∙ ap suc (run_is p bs rest (second_of_and (p b) (list_all p bs) all) stops)

-- a text is its run and a rest that the run can't take
pub record Run (p : ℕ → Bool) (text : List ℕ) (n : ℕ) : Type 0 where
  pub front : List ℕ
  pub rest : List ℕ
  pub parts : text ≡ front ++ rest
  pub dropped : drop n text ≡ rest
  pub count : n ≡ length front
  pub all : list_all p front ≡ true
  pub stops : begins p rest ≡ false

pub run_parts : (p : ℕ → Bool) (text : List ℕ) → Run p text (run p text)
run_parts p [] = record { front = []; rest = []; parts = refl; dropped = refl; count = refl; all = refl; stops = refl }
run_parts p (b ∷ bs) =
    let more = run_parts p bs in
    choose (Run p (b ∷ bs)) (p b) (suc (run p bs)) 0
    (λ t. record {
      front = b ∷ more.front;
      rest = more.rest;
      parts = ap (λ l. b ∷ l) more.parts;
      dropped = more.dropped;
      count = ap suc more.count;
      all = ap (λ x. x && list_all p more.front) t ∙ more.all;
      stops = more.stops;
    })
    (λ f. record { front = []; rest = b ∷ bs; parts = refl; dropped = refl; count = refl; all = refl; stops = f })

-- ---- between signs

pub closes : (s : ℕ) (inner rest : List ℕ) → begins (λ b. b == s) rest ≡ false → closing s false (doubled s inner ++ s ∷ rest) ≡ Some (suc (length (doubled s inner)))
closes s [] [] stops = ap (λ t. option_map suc (closing s (t && true) [])) (same_eqb s)
closes s [] (c ∷ cs) stops =
    ap (λ t. option_map suc (closing s (t && true) (c ∷ cs))) (same_eqb s)
    ∙ ap (λ t. option_map suc (cond (true && not t) (Some 0) (option_map suc (closing s (c == s && false) cs)))) stops
closes s (b ∷ bs) rest stops =
    let ih = closes s bs rest stops in
    choose (λ l. closing s false (l ++ s ∷ rest) ≡ Some (suc (length l))) (b == s) (s ∷ s ∷ doubled s bs) (b ∷ doubled s bs)
    (λ t.
    ap (λ x. option_map suc (closing s (x && true) (s ∷ doubled s bs ++ s ∷ rest))) (same_eqb s)
    ∙ ap (λ x. option_map suc (cond (true && not x) (Some 0) (option_map suc (closing s (x && false) (doubled s bs ++ s ∷ rest))))) (same_eqb s)
    ∙ ap (λ o. option_map suc (option_map suc o)) ih)
    (λ f.
    ap (λ x. option_map suc (closing s (x && true) (doubled s bs ++ s ∷ rest))) f
    ∙ ap (option_map suc) ih)

pub stays_open : (s : ℕ) (inner : List ℕ) → closing s false (doubled s inner) ≡ None
stays_open s [] = refl
stays_open s (b ∷ bs) =
    let ih = stays_open s bs in
    choose (λ l. closing s false l ≡ None) (b == s) (s ∷ s ∷ doubled s bs) (b ∷ doubled s bs)
    (λ t.
    ap (λ x. option_map suc (closing s (x && true) (s ∷ doubled s bs))) (same_eqb s)
    ∙ ap (λ x. option_map suc (cond (true && not x) (Some 0) (option_map suc (closing s (x && false) (doubled s bs))))) (same_eqb s)
    ∙ ap (λ o. option_map suc (option_map suc o)) ih)
    (λ f.
    ap (λ x. option_map suc (closing s (x && true) (doubled s bs))) f
    ∙ ap (option_map suc) ih)

-- what a text after a sign holds, by what was found
pub data Enclosed (s : ℕ) (rest : List ℕ) : Option ℕ → Type 0 where
  left : (inner : List ℕ) → rest ≡ doubled s inner → Enclosed s rest None
  shut : (inner tail : List ℕ) → rest ≡ doubled s inner ++ s ∷ tail → begins (λ b. b == s) tail ≡ false → Enclosed s rest (Some (suc (length (doubled s inner))))

one_more : (s b : ℕ) (bs : List ℕ) (o : Option ℕ) → (b == s) ≡ false → Enclosed s bs o → Enclosed s (b ∷ bs) (option_map suc o)
one_more s b bs None f (left inner e) = left (b ∷ inner) (ap (λ l. b ∷ l) e ∙ sym (passed (s ∷ s ∷ doubled s inner) (b ∷ doubled s inner) f))
one_more s b bs (Some _) f (shut inner tail e stops) =
    let step : doubled s (b ∷ inner) ≡ b ∷ doubled s inner = passed (s ∷ s ∷ doubled s inner) (b ∷ doubled s inner) f in
    subst (λ n. Enclosed s (b ∷ bs) (Some (suc n))) (ap length step)
    (shut (b ∷ inner) tail (ap (λ l. b ∷ l) e ∙ ap (λ l. l ++ s ∷ tail) (sym step)) stops)

two_more : (s : ℕ) (bs : List ℕ) (o : Option ℕ) → Enclosed s bs o → Enclosed s (s ∷ s ∷ bs) (option_map suc (option_map suc o))
two_more s bs None (left inner e) = left (s ∷ inner) (ap (λ l. s ∷ s ∷ l) e ∙ sym (chosen (s ∷ s ∷ doubled s inner) (s ∷ doubled s inner) (same_eqb s)))
two_more s bs (Some _) (shut inner tail e stops) =
    let step : doubled s (s ∷ inner) ≡ s ∷ s ∷ doubled s inner = chosen (s ∷ s ∷ doubled s inner) (s ∷ doubled s inner) (same_eqb s) in
    subst (λ n. Enclosed s (s ∷ s ∷ bs) (Some (suc n))) (ap length step)
    (shut (s ∷ inner) tail (ap (λ l. s ∷ s ∷ l) e ∙ ap (λ l. l ++ s ∷ tail) (sym step)) stops)

pub enclosed : (s : ℕ) (rest : List ℕ) → Enclosed s rest (closing s false rest)
enclosed s [] = left [] refl
enclosed s (b ∷ []) =
    by_bool (b == s)
    (λ t.
    subst (λ x. Enclosed s (b ∷ []) (option_map suc (closing s (x && true) []))) (sym t)
    (shut [] [] (ap (λ x. x ∷ []) (eqb-true b s t)) refl))
    (λ f.
    subst (λ x. Enclosed s (b ∷ []) (option_map suc (closing s (x && true) []))) (sym f)
    (one_more s b [] None f (left [] refl)))
enclosed s (b ∷ c ∷ cs) =
    let after_one = enclosed s (c ∷ cs) in
    let after_two = enclosed s cs in
    by_bool (b == s)
    (λ t.
    subst (λ x. Enclosed s (b ∷ c ∷ cs) (option_map suc (closing s (x && true) (c ∷ cs)))) (sym t)
    (by_bool (c == s)
    (λ u.
    subst (λ x. Enclosed s (b ∷ c ∷ cs) (option_map suc (cond (true && not x) (Some 0) (option_map suc (closing s (x && false) cs))))) (sym u)
    (subst (λ x. Enclosed s (x ∷ c ∷ cs) (option_map suc (option_map suc (closing s false cs)))) (sym (eqb-true b s t))
    (subst (λ x. Enclosed s (s ∷ x ∷ cs) (option_map suc (option_map suc (closing s false cs)))) (sym (eqb-true c s u))
    (two_more s cs (closing s false cs) after_two))))
    (λ v.
    subst (λ x. Enclosed s (b ∷ c ∷ cs) (option_map suc (cond (true && not x) (Some 0) (option_map suc (closing s (x && false) cs))))) (sym v)
    (shut [] (c ∷ cs) (ap (λ x. x ∷ c ∷ cs) (eqb-true b s t)) v))))
    (λ f.
    subst (λ x. Enclosed s (b ∷ c ∷ cs) (option_map suc (closing s (x && true) (c ∷ cs)))) (sym f)
    (one_more s b (c ∷ cs) (closing s false (c ∷ cs)) f after_one))
