-- Arrivals of one connection among others.
use Rattle.std.proofs.Common.{◌≡◌, ℕ, ◌+◌, ◌-◌, ◌<◌, ◌≤◌, zero, suc, Bool, true, false, ◌||◌, ◌==◌, nat_lt, List, [], ◌∷◌, ◌++◌, length, drop, refl, sym, ap, ◌∙◌, subst, arith, append-nil, length-append, drop_of_length-le, eq-eqb, if◌then◌else◌}
use Rattle.std.proofs.lemmas.Bool.{eqb-true}
use Rattle.std.proofs.lemmas.Bool.Decides.{nat_tests}
use Rattle.sdb_http.specs.Messages.{Reply}
use Rattle.sdb_arrivals.specs.Framing.{AreNumbered, arrivals, has, of, requests}
use Rattle.sdb_arrivals.specs.Story.{Framed}

same : (c : ℕ) → (c == c) ≡ true
same c = eq-eqb c c refl

lt_suc : (a b : ℕ) → nat_lt (suc a) (suc b) ≡ nat_lt a b
lt_suc a b = grind (arith, nat_tests)

-- ---- lists

of_by : (conn : ℕ) (w : Framed) (xs ys : List Framed) (t : Bool) → (w.conn == conn) ≡ t → of conn (xs ++ ys) ≡ of conn xs ++ of conn ys → of conn (w ∷ (xs ++ ys)) ≡ of conn (w ∷ xs) ++ of conn ys
of_by conn w xs ys true e h = rw (e, h) refl
of_by conn w xs ys false e h = rw (e, h) refl

pub of-append : (conn : ℕ) (xs ys : List Framed) → of conn (xs ++ ys) ≡ of conn xs ++ of conn ys
of-append conn [] ys = refl
of-append conn (w ∷ xs) ys = of_by conn w xs ys (w.conn == conn) refl (of-append conn xs ys)

pub requests-append : (xs ys : List Framed) → requests (xs ++ ys) ≡ requests xs ++ requests ys
requests-append [] ys = refl
requests-append (w ∷ xs) ys = ap (λ (rs : List Reply). w.request ∷ rs) (requests-append xs ys)

or_assoc : (a b c : Bool) → ((a || b) || c) ≡ (a || (b || c))
or_assoc true b c = refl
or_assoc false b c = refl

pub or_false : (a : Bool) → (a || false) ≡ a
or_false true = refl
or_false false = refl

pub has-append : (conn : ℕ) (xs ys : List Framed) → has conn (xs ++ ys) ≡ (has conn xs || has conn ys)
has-append conn [] ys = refl
has-append conn (w ∷ xs) ys = ap (λ (b : Bool). (w.conn == conn) || b) (has-append conn xs ys) ∙ sym (or_assoc (w.conn == conn) (has conn xs) (has conn ys))

-- what has isnt arrival of a connection has none of it
none_by : (conn : ℕ) (w : Framed) (ws : List Framed) (t : Bool) → (w.conn == conn) ≡ t → (has conn ws ≡ false → of conn ws ≡ []) → (t || has conn ws) ≡ false → of conn (w ∷ ws) ≡ []
none_by conn w ws true e h isnt = absurd cc
none_by conn w ws false e h isnt = rw e (h isnt)

pub of_none : (conn : ℕ) (ws : List Framed) → has conn ws ≡ false → of conn ws ≡ []
of_none conn [] isnt = refl
of_none conn (w ∷ ws) isnt = none_by conn w ws (w.conn == conn) refl (of_none conn ws) isnt

-- ---- the arrivals that replies are

pub length-arrivals : (conn moment before : ℕ) (replies : List Reply) → length (arrivals conn moment before replies) ≡ length replies
length-arrivals conn moment before [] = refl
length-arrivals conn moment before (reply ∷ replies) = ap (λ (n : ℕ). suc n) (length-arrivals conn moment (before + 1) replies)

pub requests-arrivals : (conn moment before : ℕ) (replies : List Reply) → requests (arrivals conn moment before replies) ≡ replies
requests-arrivals conn moment before [] = refl
requests-arrivals conn moment before (reply ∷ replies) = ap (λ (rs : List Reply). reply ∷ rs) (requests-arrivals conn moment (before + 1) replies)

pub of_same : (conn moment before : ℕ) (replies : List Reply) → of conn (arrivals conn moment before replies) ≡ arrivals conn moment before replies
of_same conn moment before [] = refl
of_same conn moment before (reply ∷ replies) = rw (same conn, of_same conn moment (before + 1) replies) refl

pub has_other : (conn other moment before : ℕ) (replies : List Reply) → (conn == other) ≡ false → has other (arrivals conn moment before replies) ≡ false
has_other conn other moment before [] isnt = refl
has_other conn other moment before (reply ∷ replies) isnt = rw (isnt, has_other conn other moment (before + 1) replies isnt) refl

pub arrivals-append : (conn moment before : ℕ) (xs ys : List Reply) → arrivals conn moment before (xs ++ ys) ≡ arrivals conn moment before xs ++ arrivals conn moment (before + length xs) ys
arrivals-append conn moment before [] ys = ap (λ (n : ℕ). arrivals conn moment n ys) (omega arith)
arrivals-append conn moment before (x ∷ xs) ys =
    let e : before + 1 + length xs ≡ before + length (x ∷ xs) = omega arith in
    ap (λ (ws : List Framed). record { conn = conn; number = before + 1; moment = moment; request = x } ∷ ws) (arrivals-append conn moment (before + 1) xs ys ∙ ap (λ (n : ℕ). arrivals conn moment (before + 1) xs ++ arrivals conn moment n ys) e)

-- ---- what is left of arrivals

has_drop_other : (conn other moment before : ℕ) (replies : List Reply) (k : ℕ) → (conn == other) ≡ false → has other (drop k (arrivals conn moment before replies)) ≡ false
has_drop_other conn other moment before replies zero isnt = has_other conn other moment before replies isnt
has_drop_other conn other moment before [] (suc k) isnt = refl
has_drop_other conn other moment before (reply ∷ replies) (suc k) isnt = has_drop_other conn other moment (before + 1) replies k isnt

has_drop_same : (conn moment before : ℕ) (replies : List Reply) (k : ℕ) → has conn (drop k (arrivals conn moment before replies)) ≡ nat_lt k (length replies)
has_drop_same conn moment before [] zero = refl
has_drop_same conn moment before [] (suc k) = grind (arith, nat_tests)
has_drop_same conn moment before (reply ∷ replies) zero = let e : nat_lt 0 (length (reply ∷ replies)) ≡ true = grind (arith, nat_tests) in rw (same conn, e) refl
has_drop_same conn moment before (reply ∷ replies) (suc k) =
    has_drop_same conn moment (before + 1) replies k ∙ sym (lt_suc k (length replies))

pub has_drop-append : (conn : ℕ) (xs ys : List Framed) (k : ℕ) → has conn (drop k (xs ++ ys)) ≡ (has conn (drop k xs) || has conn (drop (k - length xs) ys))
has_drop-append conn [] ys zero = refl
has_drop-append conn [] ys (suc k) = let e : suc k - 0 ≡ suc k = omega arith in rw e refl
has_drop-append conn (w ∷ xs) ys zero = let e : 0 - length (w ∷ xs) ≡ 0 = omega arith in rw e (has-append conn (w ∷ xs) ys)
has_drop-append conn (w ∷ xs) ys (suc k) = let e : suc k - length (w ∷ xs) ≡ k - length xs = omega arith in rw e (has_drop-append conn xs ys k)

or_lt : (k last n more : ℕ) → last ≤ n → 0 < more → (nat_lt k last || nat_lt (k - n) more) ≡ nat_lt k (n + more)
or_lt k last n more few some = grind (arith, nat_tests)

not_lt : (a b : ℕ) → false ≡ nat_lt a b → b ≤ a
not_lt a b isnt = grind (arith, nat_tests)

lasts_same : (conn moment before : ℕ) (replies : List Reply) (xs : List Framed) (last : ℕ) → ((k : ℕ) → has conn (drop k xs) ≡ nat_lt k last) → (k : ℕ) → has conn (drop k (xs ++ arrivals conn moment before replies)) ≡ nat_lt k (if has conn (arrivals conn moment before replies) then length (xs ++ arrivals conn moment before replies) else last)
lasts_same conn moment before [] xs last was k = rw (append-nil xs) (was k)
lasts_same conn moment before (reply ∷ replies) xs last was k =
    let ys = arrivals conn moment before (reply ∷ replies) in
    let none : has conn (drop (length xs) xs) ≡ false = ap (has conn) (drop_of_length-le xs (omega arith)) in
    let few : last ≤ length xs = not_lt (length xs) last (sym none ∙ was (length xs)) in
    let sized : length (xs ++ ys) ≡ length xs + length (reply ∷ replies) = length-append xs ys ∙ ap (λ (n : ℕ). length xs + n) (length-arrivals conn moment before (reply ∷ replies)) in
    let found : has conn ys ≡ true = rw (same conn) refl in
    rw (found, sized) (has_drop-append conn xs ys k ∙ (ap (λ (b : Bool). b || has conn (drop (k - length xs) ys)) (was k) ∙ (ap (λ (b : Bool). nat_lt k last || b) (has_drop_same conn moment before (reply ∷ replies) (k - length xs)) ∙ or_lt k last (length xs) (length (reply ∷ replies)) few (omega arith))))

lasts_by : (conn other moment before : ℕ) (replies : List Reply) (xs : List Framed) (last : ℕ) (t : Bool) → (conn == other) ≡ t → ((k : ℕ) → has other (drop k xs) ≡ nat_lt k last) → (k : ℕ) → has other (drop k (xs ++ arrivals conn moment before replies)) ≡ nat_lt k (if has other (arrivals conn moment before replies) then length (xs ++ arrivals conn moment before replies) else last)
lasts_by conn other moment before replies xs last true e was k =
    subst (λ (c : ℕ). has other (drop k (xs ++ arrivals c moment before replies)) ≡ nat_lt k (if has other (arrivals c moment before replies) then length (xs ++ arrivals c moment before replies) else last)) (sym (eqb-true conn other e)) (lasts_same other moment before replies xs last was k)
lasts_by conn other moment before replies xs last false e was k =
    rw (has_other conn other moment before replies e) (has_drop-append other xs (arrivals conn moment before replies) k ∙ (ap (λ (b : Bool). has other (drop k xs) || b) (has_drop_other conn other moment before replies (k - length xs) e) ∙ (or_false (has other (drop k xs)) ∙ was k)))

-- after which number of arrivals a connection has none more
pub lasts_more : (conn other moment before : ℕ) (replies : List Reply) (xs : List Framed) (last : ℕ) → ((k : ℕ) → has other (drop k xs) ≡ nat_lt k last) → (k : ℕ) → has other (drop k (xs ++ arrivals conn moment before replies)) ≡ nat_lt k (if has other (arrivals conn moment before replies) then length (xs ++ arrivals conn moment before replies) else last)
lasts_more conn other moment before replies xs last was k = lasts_by conn other moment before replies xs last (conn == other) refl was k

-- ---- numbers

pub numbered-append : (before : ℕ) (xs ys : List Framed) → AreNumbered before xs → AreNumbered (before + length xs) ys → AreNumbered before (xs ++ ys)
numbered-append before [] ys x y = subst (λ (n : ℕ). AreNumbered n ys) (omega arith) y
numbered-append before (w ∷ xs) ys (is, x) y =
    let e : before + length (w ∷ xs) ≡ before + 1 + length xs = omega arith in
    (is, numbered-append (before + 1) xs ys x (subst (λ (n : ℕ). AreNumbered n ys) e y))

pub numbered-arrivals : (conn moment before : ℕ) (replies : List Reply) → AreNumbered before (arrivals conn moment before replies)
numbered-arrivals conn moment before [] = tt
numbered-arrivals conn moment before (reply ∷ replies) = (refl, numbered-arrivals conn moment (before + 1) replies)
