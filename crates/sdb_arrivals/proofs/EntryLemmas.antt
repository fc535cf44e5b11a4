-- The entries of a table.
use Rattle.std.proofs.Common.{◌≡◌, ℕ, ◌<◌, ◌≤◌, Bool, true, false, ◌||◌, ◌==◌, List, [], ◌∷◌, ◌++◌, suc, length, filter, refl, ap, ◌∙◌, arith}
use Rattle.std.proofs.lemmas.Bool.{eqb-true}
use Rattle.std.proofs.lemmas.Bool.Decides.{nat_tests}
use Rattle.std.specs.List.{AllByRecursion}
use Rattle.sdb_arrivals.specs.Framing.{is_among}
use Rattle.sdb_arrivals.specs.Tables.{Connection, RiseAbove, conns_of}

-- ---- all of a list

pub all-map : {X : Type 0} (P Q : X → Type 0) (xs : List X) → ((x : X) → P x → Q x) → AllByRecursion P xs → AllByRecursion Q xs
all-map P Q [] f all = tt
all-map P Q (x ∷ xs) f (here, all) = (f x here, all-map P Q xs f all)

pub all-append : {X : Type 0} (P : X → Type 0) (xs ys : List X) → AllByRecursion P xs → AllByRecursion P ys → AllByRecursion P (xs ++ ys)
all-append P [] ys x y = y
all-append P (z ∷ xs) ys (here, x) y = (here, all-append P xs ys x y)

pub all-front : {X : Type 0} (P : X → Type 0) (xs ys : List X) → AllByRecursion P (xs ++ ys) → AllByRecursion P xs
all-front P [] ys all = tt
all-front P (x ∷ xs) ys (here, all) = (here, all-front P xs ys all)

pub all-back : {X : Type 0} (P : X → Type 0) (xs ys : List X) → AllByRecursion P (xs ++ ys) → AllByRecursion P ys
all-back P [] ys all = all
all-back P (x ∷ xs) ys (here, all) = all-back P xs ys all

filter_by : {X : Type 0} (P : X → Type 0) (p : X → Bool) (x : X) (xs : List X) (t : Bool) → p x ≡ t → P x → AllByRecursion P (filter p xs) → AllByRecursion P (filter p (x ∷ xs))
filter_by P p x xs true e here all = rw e (here, all)
filter_by P p x xs false e here all = rw e all

pub all-filter : {X : Type 0} (P : X → Type 0) (p : X → Bool) (xs : List X) → AllByRecursion P xs → AllByRecursion P (filter p xs)
all-filter P p [] all = tt
all-filter P p (x ∷ xs) (here, all) = filter_by P p x xs (p x) refl here (all-filter P p xs all)

-- two facts of each give a third
pub all-both : {X : Type 0} (P Q R : X → Type 0) (xs : List X) → ((x : X) → P x → Q x → R x) → AllByRecursion P xs → AllByRecursion Q xs → AllByRecursion R xs
all-both P Q R [] f ps qs = tt
all-both P Q R (x ∷ xs) f (p, ps) (q, qs) = (f x p q, all-both P Q R xs f ps qs)

-- ---- numbers that rise

pub rise_from : (low high : ℕ) (conns : List ℕ) → low ≤ high → RiseAbove high conns → RiseAbove low conns
rise_from low high [] less rise = tt
rise_from low high (c ∷ conns) less (above, rise) = (omega arith, rise)

rise_filter_by : (t : Connection → Bool) (low : ℕ) (e : Connection) (entries : List Connection) (b : Bool) → t e ≡ b → low < e.conn → RiseAbove e.conn (conns_of (filter t entries)) → RiseAbove low (conns_of (filter t (e ∷ entries)))
rise_filter_by t low e entries true is above rise = rw is (above, rise)
rise_filter_by t low e entries false is above rise = rw is (rise_from low e.conn (conns_of (filter t entries)) (omega arith) rise)

pub rise-filter : (t : Connection → Bool) (low : ℕ) (entries : List Connection) → RiseAbove low (conns_of entries) → RiseAbove low (conns_of (filter t entries))
rise-filter t low [] rise = tt
rise-filter t low (e ∷ entries) (above, rise) = rise_filter_by t low e entries (t e) refl above (rise-filter t e.conn entries rise)

-- a number above all goes to the end
pub rise-end : (low last c : ℕ) (entries : List Connection) → low < c → last < c → AllByRecursion (λ (e : Connection). e.conn ≤ last) entries → RiseAbove low (conns_of entries) → RiseAbove low (conns_of entries ++ c ∷ [])
rise-end low last c [] more above within rise = (more, tt)
rise-end low last c (e ∷ entries) more above (here, within) (next, rise) = (next, rise-end e.conn last c entries (omega arith) above within rise)

differ : (a b : ℕ) → a < b → (b == a) ≡ false
differ a b less = grind (arith, nat_tests)

differs : (a b : ℕ) → a < b → (a == b) ≡ false
differs a b less = grind (arith, nat_tests)

-- another number than this
abbrev pub IsOther : ℕ → Connection → Type 0
IsOther conn e = (conn == e.conn) ≡ false

others_after : (low conn : ℕ) (entries : List Connection) → conn ≤ low → RiseAbove low (conns_of entries) → AllByRecursion (IsOther conn) entries
others_after low conn [] less rise = tt
others_after low conn (e ∷ entries) less (above, rise) = (differs conn e.conn (omega arith), others_after e.conn conn entries (omega arith) rise)

rise-high : (low : ℕ) (front : List Connection) (e : Connection) (back : List Connection) → RiseAbove low (conns_of (front ++ e ∷ back)) → low < e.conn
rise-high low [] e back (above, rise) = above
rise-high low (f ∷ front) e back (above, rise) = let more : f.conn < e.conn = rise-high f.conn front e back rise in omega arith

pub others_before : (low : ℕ) (front : List Connection) (e : Connection) (back : List Connection) → RiseAbove low (conns_of (front ++ e ∷ back)) → AllByRecursion (IsOther e.conn) front
others_before low [] e back rise = tt
others_before low (f ∷ front) e back (above, rise) = (differ f.conn e.conn (rise-high f.conn front e back rise), others_before f.conn front e back rise)

pub others_behind : (low : ℕ) (front : List Connection) (e : Connection) (back : List Connection) → RiseAbove low (conns_of (front ++ e ∷ back)) → AllByRecursion (IsOther e.conn) back
others_behind low [] e back (above, rise) = others_after e.conn e.conn back (omega arith) rise
others_behind low (f ∷ front) e back (above, rise) = others_behind f.conn front e back rise

-- ---- one entry among others

pub conns_set : (front : List Connection) (e after : Connection) (back : List Connection) → after.conn ≡ e.conn → conns_of (front ++ after ∷ back) ≡ conns_of (front ++ e ∷ back)
conns_set [] e after back same = ap (λ (c : ℕ). c ∷ conns_of back) same
conns_set (f ∷ front) e after back same = ap (λ (cs : List ℕ). f.conn ∷ cs) (conns_set front e after back same)

pub conns-append : (xs ys : List Connection) → conns_of (xs ++ ys) ≡ conns_of xs ++ conns_of ys
conns-append [] ys = refl
conns-append (e ∷ xs) ys = ap (λ (cs : List ℕ). e.conn ∷ cs) (conns-append xs ys)

-- ---- filters

-- where the second test implies the first on what is there, the first adds nothing
abbrev pub Implied : (ℕ → Bool) → (ℕ → Bool) → ℕ → Type 0
Implied p q x = q x ≡ true → p x ≡ true

both_by : (p q : ℕ → Bool) (x : ℕ) (xs : List ℕ) (s t : Bool) → p x ≡ s → q x ≡ t → Implied p q x → filter q (filter p xs) ≡ filter q xs → filter q (filter p (x ∷ xs)) ≡ filter q (x ∷ xs)
both_by p q x xs true true e f implied same = rw (e, f) (ap (λ (ys : List ℕ). x ∷ ys) same)
both_by p q x xs true false e f implied same = rw (e, f) same
both_by p q x xs false true e f implied same = absurd (no_both e (implied f))
  where
    no_both : {b : Bool} → b ≡ false → b ≡ true → ⊥
    no_both isnt is = cc
both_by p q x xs false false e f implied same = rw (e, f) same

pub filter_both : (p q : ℕ → Bool) (xs : List ℕ) → AllByRecursion (Implied p q) xs → filter q (filter p xs) ≡ filter q xs
filter_both p q [] implied = refl
filter_both p q (x ∷ xs) (here, implied) = both_by p q x xs (p x) (q x) refl refl here (filter_both p q xs implied)

-- on all but one number, which isn't there
implied_by : (p q : ℕ → Bool) (c x : ℕ) (xs : List ℕ) (t : Bool) → (x == c) ≡ t → ((x : ℕ) → (x == c) ≡ false → Implied p q x) → AllByRecursion (Implied p q) xs → (t || is_among c xs) ≡ false → AllByRecursion (Implied p q) (x ∷ xs)
implied_by p q c x xs true e f all isnt = absurd cc
implied_by p q c x xs false e f all isnt = (f x e, all)

pub implied_others : (p q : ℕ → Bool) (c : ℕ) (xs : List ℕ) → ((x : ℕ) → (x == c) ≡ false → Implied p q x) → is_among c xs ≡ false → AllByRecursion (Implied p q) xs
implied_others p q c [] f isnt = tt
implied_others p q c (x ∷ xs) f isnt = implied_by p q c x xs (x == c) refl f (implied_others p q c xs f (rest_no (x == c) isnt)) isnt
  where
    rest_no : (t : Bool) → (t || is_among c xs) ≡ false → is_among c xs ≡ false
    rest_no true isnt = absurd cc
    rest_no false isnt = isnt

pub implied_all : (p q : ℕ → Bool) (xs : List ℕ) → ((x : ℕ) → Implied p q x) → AllByRecursion (Implied p q) xs
implied_all p q [] f = tt
implied_all p q (x ∷ xs) f = (f x, implied_all p q xs f)

append_by : (p : ℕ → Bool) (x : ℕ) (xs ys : List ℕ) (t : Bool) → p x ≡ t → filter p (xs ++ ys) ≡ filter p xs ++ filter p ys → filter p (x ∷ (xs ++ ys)) ≡ filter p (x ∷ xs) ++ filter p ys
append_by p x xs ys true e same = rw (e, same) refl
append_by p x xs ys false e same = rw (e, same) refl

pub filter-append : (p : ℕ → Bool) (xs ys : List ℕ) → filter p (xs ++ ys) ≡ filter p xs ++ filter p ys
filter-append p [] ys = refl
filter-append p (x ∷ xs) ys = append_by p x xs ys (p x) refl (filter-append p xs ys)

-- where a test of entries is one of their numbers, it passes the same
abbrev pub Tests : (Connection → Bool) → (ℕ → Bool) → Connection → Type 0
Tests t p e = t e ≡ p e.conn

conns_by : (t : Connection → Bool) (p : ℕ → Bool) (e : Connection) (entries : List Connection) (b : Bool) → p e.conn ≡ b → Tests t p e → conns_of (filter t entries) ≡ filter p (conns_of entries) → conns_of (filter t (e ∷ entries)) ≡ filter p (conns_of (e ∷ entries))
conns_by t p e entries true is here same = rw (here, is) (ap (λ (cs : List ℕ). e.conn ∷ cs) same)
conns_by t p e entries false is here same = rw (here, is) same

pub conns_filter : (t : Connection → Bool) (p : ℕ → Bool) (entries : List Connection) → AllByRecursion (Tests t p) entries → conns_of (filter t entries) ≡ filter p (conns_of entries)
conns_filter t p [] all = refl
conns_filter t p (e ∷ entries) (here, all) = conns_by t p e entries (p e.conn) refl here (conns_filter t p entries all)

pub length-conns : (entries : List Connection) → length (conns_of entries) ≡ length entries
length-conns [] = refl
length-conns (e ∷ entries) = ap (λ (n : ℕ). suc n) (length-conns entries)

-- ---- a number that stays among those that pass

among_filter_by : (p : ℕ → Bool) (c x : ℕ) (xs : List ℕ) (s t : Bool) → p x ≡ s → (x == c) ≡ t → p c ≡ true → (is_among c xs ≡ true → is_among c (filter p xs) ≡ true) → (t || is_among c xs) ≡ true → is_among c (filter p (x ∷ xs)) ≡ true
among_filter_by p c x xs true true e f passes rest is = rw (e, f) refl
among_filter_by p c x xs true false e f passes rest is = rw (e, f) (rest is)
among_filter_by p c x xs false true e f passes rest is = absurd (no_both e (ap p (eqb-true x c f) ∙ passes))
  where
    no_both : {b : Bool} → b ≡ false → b ≡ true → ⊥
    no_both isnt is = cc
among_filter_by p c x xs false false e f passes rest is = rw e (rest is)

pub among-filter : (p : ℕ → Bool) (c : ℕ) (xs : List ℕ) → p c ≡ true → is_among c xs ≡ true → is_among c (filter p xs) ≡ true
among-filter p c [] passes is = absurd cc
among-filter p c (x ∷ xs) passes is = among_filter_by p c x xs (p x) (x == c) refl refl passes (among-filter p c xs passes) is

or_more : (t a b : Bool) → (a ≡ true → b ≡ true) → (t || a) ≡ true → (t || b) ≡ true
or_more true a b f is = refl
or_more false a b f is = f is

pub among-append : (c : ℕ) (xs ys : List ℕ) → is_among c xs ≡ true → is_among c (xs ++ ys) ≡ true
among-append c [] ys is = absurd cc
among-append c (x ∷ xs) ys is = or_more (x == c) (is_among c xs) (is_among c (xs ++ ys)) (among-append c xs ys) is

pub among-end : (c : ℕ) (xs ys : List ℕ) → is_among c ys ≡ true → is_among c (xs ++ ys) ≡ true
among-end c [] ys is = is
among-end c (x ∷ xs) ys is = rw (among-end c xs ys is) (or_true (x == c))
  where
    or_true : (t : Bool) → (t || true) ≡ true
    or_true true = refl
    or_true false = refl
