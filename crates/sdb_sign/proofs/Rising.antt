-- Parameters that are put in their places one after the other rise by name, and no other list does.
use Rattle.std.proofs.Common.{◌≡◌, ℕ, zero, suc, ◌<◌, ◌⊎◌, false, List, [], ◌∷◌, ◌++◌, length, get_or, Some, refl, sym, ap, ◌∙◌, subst, inl, inr, ⊎_elim, arith}
use Rattle.std.specs.declared.cmp.Ordering.{Ordering}
use Rattle.std.specs.declared.cmp.Ordering.TheVariants.{Less, Equal, Greater}
use Rattle.std.specs.Cmp.Lexicographic.{nat_list_cmp_total, nat_list_eq_equiv}
use Rattle.std.specs.List.{AllByRecursion, Contains, fold}
use Rattle.std.specs.List.Sorted.{IsPermutation, IsStrictlySortedBy}
use Rattle.std.specs.Map.{keys_of}
use Rattle.std.specs.Ordering.{match_ordering, ordering_reverse}
use Rattle.std.specs.Str.{bytes_eq}
use Rattle.std.proofs.lemmas.Bool.{both_ways}
use Rattle.std.proofs.lemmas.List.{append-nil}
use Rattle.std.proofs.lemmas.List.Sorted.{Contains-permutation, IsPermutation-append_right, IsPermutation-cons, IsPermutation-map, IsPermutation-middle, IsPermutation-refl, IsPermutation-sym, IsPermutation-trans}
use Rattle.std.proofs.lemmas.Map.Keys.{IsDistinct-IsPermutation, IsDistinct-head}
use Rattle.std.proofs.lemmas.Map.Lookups.{exact_bytes}
use Rattle.sdb_base.specs.Pairs.{HasDistinctNames, NamedValues}
use Rattle.sdb_base.specs.Entries.{IsRising}
use Rattle.sdb_base.specs.Texts.{text_cmp}
use Rattle.sdb_base.proofs.EntryLemmas.{rising-placed}
use Rattle.sdb_sign.specs.Canon.{rising, with_param}

abbrev Param : Type 0
Param = List ℕ × List ℕ

never_both : (a b : List ℕ) → text_cmp a b ≡ Less → text_cmp b a ≡ Less → ⊥
never_both a b less back =
    let h : Less ≡ Greater = sym less ∙ nat_list_cmp_total.antisymm a b ∙ ap ordering_reverse back in
    absurd cc

-- ---- order

rises_fold : (es ps : NamedValues) → IsRising text_cmp es → IsRising text_cmp (fold with_param es ps)
rises_fold es [] rises = rises
rises_fold es (p ∷ ps) rises = rises_fold (with_param es p) ps (rising-placed nat_list_cmp_total es p.0 (Some p.1) rises)

pub rising_rises : (params : NamedValues) → IsRising text_cmp (rising params)
unfolding rising IsStrictlySortedBy
rising_rises params = rises_fold [] params tt

-- ---- members

put_placed : (o : Ordering) (e p : Param) (es : NamedValues) → text_cmp p.0 e.0 ≡ o → bytes_eq p.0 e.0 ≡ false → IsPermutation (p ∷ es) (with_param es p) → IsPermutation (p ∷ e ∷ es) (match_ordering o (p ∷ e ∷ es) ((e.0, p.1) ∷ es) (e ∷ with_param es p))
put_placed Less e p es is new rest = IsPermutation-refl (p ∷ e ∷ es)
put_placed Equal e p es is new rest =
    absurd (both_ways _ (ap (λ name. bytes_eq p.0 name) (exact_bytes p.0 e.0 is) ∙ new) (nat_list_eq_equiv.refl p.0))
put_placed Greater e p es is new rest =
    IsPermutation-trans (p ∷ e ∷ es) (e ∷ p ∷ es) (e ∷ with_param es p) (IsPermutation-sym (e ∷ p ∷ es) (p ∷ e ∷ es) (IsPermutation-middle (e ∷ []) p es)) (IsPermutation-cons e (p ∷ es) (with_param es p) rest)

put_one : (es : NamedValues) (p : Param) → AllByRecursion (λ name. bytes_eq p.0 name ≡ false) (keys_of es) → IsPermutation (p ∷ es) (with_param es p)
put_one [] p new = IsPermutation-refl (p ∷ [])
put_one (e ∷ es) p new = put_placed (text_cmp p.0 e.0) e p es refl new.0 (put_one es p new.1)

all_after : (P : List ℕ → Type 0) (ps es : NamedValues) → AllByRecursion P (keys_of (ps ++ es)) → AllByRecursion P (keys_of es)
all_after P [] es all = all
all_after P (p ∷ ps) es all = all_after P ps es all.1

put_all : (es ps : NamedValues) → HasDistinctNames (ps ++ es) → IsPermutation (ps ++ es) (fold with_param es ps)
put_all es [] distinct = IsPermutation-refl es
put_all es (p ∷ ps) distinct =
    let new = all_after (λ name. bytes_eq p.0 name ≡ false) ps es (IsDistinct-head bytes_eq p.0 (keys_of (ps ++ es)) distinct) in
    let put = IsPermutation-trans (p ∷ (ps ++ es)) (ps ++ p ∷ es) (ps ++ with_param es p) (IsPermutation-sym (ps ++ p ∷ es) (p ∷ (ps ++ es)) (IsPermutation-middle ps p es)) (IsPermutation-append_right ps (p ∷ es) (with_param es p) (put_one es p new)) in
    let names = IsPermutation-map (λ (e : Param). e.0) (p ∷ (ps ++ es)) (ps ++ with_param es p) put in
    let still = IsDistinct-IsPermutation bytes_eq nat_list_eq_equiv.symm (keys_of (p ∷ (ps ++ es))) (keys_of (ps ++ with_param es p)) names distinct in
    IsPermutation-trans (p ∷ (ps ++ es)) (ps ++ with_param es p) (fold with_param (with_param es p) ps) put (put_all (with_param es p) ps still)

pub rising_permutes : (params : NamedValues) → HasDistinctNames params → IsPermutation params (rising params)
unfolding rising
rising_permutes params distinct =
    let whole = append-nil params in
    subst (λ ps. IsPermutation ps (fold with_param [] params)) whole (put_all [] params (subst HasDistinctNames (sym whole) distinct))

-- ---- there is no other

abbrev Among : NamedValues → Param → Type 0
Among [] x = ⊥
Among (p ∷ ps) x = (x ≡ p) ⊎ Among ps x

among : (ps : NamedValues) (x : Param) (k : ℕ) → k < length ps → get_or ps k x ≡ x → Among ps x
among [] x k within is = absurd (omega arith)
among (p ∷ ps) x zero within is = inl (sym is)
among (p ∷ ps) x (suc k) within is = inr (among ps x k (omega arith) is)

place_of : (ps : NamedValues) (x : Param) → Among ps x → Contains ps x
place_of [] x in_none = absurd in_none
place_of (p ∷ ps) x (inl is) = (0, omega arith, sym is)
place_of (p ∷ ps) x (inr later) = let at = place_of ps x later in (suc at.0, omega (arith, at.1), at.2)

moved : (ps qs : NamedValues) → IsPermutation ps qs → (x : Param) → Among ps x → Among qs x
moved ps qs same x found =
    let at = Contains-permutation ps qs x same (place_of ps x found) in
    among qs x at.0 at.1 at.2

later : (P : List ℕ → Type 0) (es : NamedValues) (x : Param) → AllByRecursion P (keys_of es) → Among es x → P x.0
later P [] x all found = absurd found
later P (e ∷ es) x all (inl is) = subst (λ (y : Param). P y.0) (sym is) all.0
later P (e ∷ es) x all (inr more) = later P es x all.1 more

one_rising : (ps qs : NamedValues) → IsRising text_cmp ps → IsRising text_cmp qs → ((x : Param) → Among ps x → Among qs x) → ((x : Param) → Among qs x → Among ps x) → ps ≡ qs
unfolding IsStrictlySortedBy
one_rising [] [] p_rises q_rises forth back = refl
one_rising [] (q ∷ qs) p_rises q_rises forth back = absurd (back q (inl refl))
one_rising (p ∷ ps) [] p_rises q_rises forth back = absurd (forth p (inl refl))
one_rising (p ∷ ps) (q ∷ qs) p_rises q_rises forth back =
    let after_p = λ (x : Param) (found : Among ps x). later (λ name. text_cmp p.0 name ≡ Less) ps x p_rises.0 found in
    let after_q = λ (x : Param) (found : Among qs x). later (λ name. text_cmp q.0 name ≡ Less) qs x q_rises.0 found in
    let first : p ≡ q = ⊎_elim
    (λ is. is)
    (λ p_later. ⊎_elim (λ is. sym is) (λ q_later. absurd (never_both p.0 q.0 (after_p q q_later) (after_q p p_later))) (back q (inl refl)))
    (forth p (inl refl))
    in
    let rest : ps ≡ qs = one_rising ps qs p_rises.1 q_rises.1
    (λ x found. ⊎_elim
    (λ is. let same : p.0 ≡ x.0 = ap (λ (y : Param). y.0) (first ∙ sym is) in
    absurd (never_both p.0 p.0 (subst (λ name. text_cmp p.0 name ≡ Less) (sym same) (after_p x found)) (subst (λ name. text_cmp p.0 name ≡ Less) (sym same) (after_p x found))))
    (λ there. there)
    (forth x (inr found)))
    (λ x found. ⊎_elim
    (λ is. let same : q.0 ≡ x.0 = ap (λ (y : Param). y.0) (sym first ∙ sym is) in
    absurd (never_both q.0 q.0 (subst (λ name. text_cmp q.0 name ≡ Less) (sym same) (after_q x found)) (subst (λ name. text_cmp q.0 name ≡ Less) (sym same) (after_q x found))))
    (λ there. there)
    (back x (inr found)))
    in
    ap (λ front. front ∷ ps) first ∙ ap (λ tail. q ∷ tail) rest

pub rising_only : (params other : NamedValues) → HasDistinctNames params → IsRising text_cmp other → IsPermutation params other → other ≡ rising params
rising_only params other distinct rises same =
    let sorted = rising_permutes params distinct in
    let there = IsPermutation-trans other params (rising params) (IsPermutation-sym params other same) sorted in
    let back = IsPermutation-sym other (rising params) there in
    one_rising other (rising params) rises (rising_rises params) (moved other (rising params) there) (moved (rising params) other back)
