-- Parameters that rise by name already.
use Rattle.std.proofs.Common.{◌≡◌, ℕ, Bool, true, false, ◌&&◌, List, [], ◌∷◌, ◌++◌, Option, Some, None, map, filter, refl, sym, ap, ◌∙◌, subst, arith, append_assoc, append-nil, ◌+◌, take, drop, drop-cons, add-one, suc, if◌then◌else◌}
use Rattle.std.specs.Prelude.{slice_get}
use Rattle.std.proofs.lemmas.List.{take_more}
use Rattle.std.proofs.lemmas.List.Elements.{filter-append}
use Rattle.std.proofs.lemmas.Option.{get_or_from_slice_get, slice_get_within}
use Rattle.std.specs.declared.cmp.Ordering.{Ordering}
use Rattle.std.specs.declared.cmp.Ordering.TheVariants.{Less, Equal, Greater}
use Rattle.std.proofs.lemmas.Bool.Decides.{nat_tests}
use Rattle.std.specs.Char.{to_ascii_lowercase}
use Rattle.std.specs.Cmp.Lexicographic.{nat_list_cmp_total}
use Rattle.std.specs.List.{AllByRecursion, fold, list_all}
use Rattle.std.specs.List.Sorted.{IsStrictlySortedBy}
use Rattle.std.specs.Map.{keys_of}
use Rattle.std.specs.Ordering.{match_ordering, ordering_reverse}
use Rattle.sdb_base.specs.Ascii.{ampersand}
use Rattle.sdb_base.specs.Entries.{IsRising}
use Rattle.sdb_base.specs.Pairs.{NamedValues}
use Rattle.sdb_base.specs.Texts.{text_cmp}
use Rattle.sdb_sign.specs.Canon.{after_name, is_after, is_less, is_lower, is_signed, left_of, rising, with_param, written}

abbrev Param : Type 0
Param = List ℕ × List ℕ

-- ---- the end of a list

all_push : (P : List ℕ → Type 0) (ps : NamedValues) (p : Param) → AllByRecursion P (keys_of ps) → P p.0 → AllByRecursion P (keys_of (ps ++ p ∷ []))
all_push P [] p all here = (here, tt)
all_push P (q ∷ ps) p (first, all) here = (first, all_push P ps p all here)

all_at : (P : List ℕ → Type 0) (ps : NamedValues) (p : Param) (more : NamedValues) → AllByRecursion P (keys_of (ps ++ p ∷ more)) → P p.0
all_at P [] p more (here, all) = here
all_at P (q ∷ ps) p more (first, all) = all_at P ps p more all

-- the name of the last parameter
abbrev pub last_name : NamedValues → Option (List ℕ)
last_name [] = None
last_name (p ∷ []) = Some p.0
last_name (p ∷ q ∷ ps) = last_name (q ∷ ps)

pub last_name-push : (ps : NamedValues) (p : Param) → last_name (ps ++ p ∷ []) ≡ Some p.0
last_name-push [] p = refl
last_name-push (q ∷ []) p = refl
last_name-push (q ∷ r ∷ ps) p = last_name-push (r ∷ ps) p

less_by : (o : Ordering) → is_less o ≡ true → o ≡ Less
less_by Less is = refl
less_by Equal is = absurd cc
less_by Greater is = absurd cc

-- a name after the last goes on rising
pub rises_push : (ps : NamedValues) (p : Param) → IsRising text_cmp ps → is_after (last_name ps) p.0 ≡ true → IsRising text_cmp (ps ++ p ∷ [])
unfolding IsStrictlySortedBy
rises_push [] p rise after = (tt, tt)
rises_push (q ∷ []) p (all, rise) after = ((less_by (text_cmp q.0 p.0) after, tt), (tt, tt))
rises_push (q ∷ r ∷ ps) p (all, rise) after =
    let more = rises_push (r ∷ ps) p rise after in
    let last : text_cmp r.0 p.0 ≡ Less = all_at (λ name. text_cmp r.0 name ≡ Less) ps p [] more.0 in
    let less : text_cmp q.0 p.0 ≡ Less = nat_list_cmp_total.trans q.0 r.0 p.0 all.0 last in
    (all_push (λ name. text_cmp q.0 name ≡ Less) (r ∷ ps) p all less, more)

-- ---- no sort

after_all : (o : Ordering) (e p : Param) (es more : NamedValues) → text_cmp p.0 e.0 ≡ o → text_cmp e.0 p.0 ≡ Less → match_ordering o (p ∷ e ∷ es) ((e.0, p.1) ∷ es) (e ∷ more) ≡ e ∷ more
after_all Less e p es more is less = let other : Less ≡ Greater = sym is ∙ (nat_list_cmp_total.antisymm p.0 e.0 ∙ ap ordering_reverse less) in absurd cc
after_all Equal e p es more is less = let other : Equal ≡ Greater = sym is ∙ (nat_list_cmp_total.antisymm p.0 e.0 ∙ ap ordering_reverse less) in absurd cc
after_all Greater e p es more is less = refl

insert_last : (es : NamedValues) (p : Param) → AllByRecursion (λ name. text_cmp name p.0 ≡ Less) (keys_of es) → with_param es p ≡ es ++ p ∷ []
insert_last [] p all = refl
insert_last (e ∷ es) p (less, all) =
    after_all (text_cmp p.0 e.0) e p es (with_param es p) refl less ∙ ap (λ (more : NamedValues). e ∷ more) (insert_last es p all)

before_all : (es : NamedValues) (p : Param) (ps : NamedValues) → IsRising text_cmp (es ++ p ∷ ps) → AllByRecursion (λ name. text_cmp name p.0 ≡ Less) (keys_of es)
unfolding IsStrictlySortedBy
before_all [] p ps rise = tt
before_all (e ∷ es) p ps (all, rise) = (all_at (λ name. text_cmp e.0 name ≡ Less) es p ps all, before_all es p ps rise)

fold_last : (es ps : NamedValues) → IsRising text_cmp (es ++ ps) → fold with_param es ps ≡ es ++ ps
fold_last es [] rise = sym (append-nil es)
fold_last es (p ∷ ps) rise =
    let moved : (es ++ p ∷ []) ++ ps ≡ es ++ p ∷ ps = append_assoc es (p ∷ []) ps in
    ap (λ (now : NamedValues). fold with_param now ps) (insert_last es p (before_all es p ps rise))
    ∙ (fold_last (es ++ p ∷ []) ps (subst (IsRising text_cmp) (sym moved) rise) ∙ moved)

-- what rises stays as it is
pub rising_same : (ps : NamedValues) → IsRising text_cmp ps → rising ps ≡ ps
unfolding rising
rising_same ps rise = fold_last [] ps rise

-- ---- a parameter more

after_by : (ps : NamedValues) (p : Param) (last next : Option (List ℕ)) (signed after : Bool) → is_signed p ≡ signed → is_after last p.0 ≡ after → IsRising text_cmp ps → last ≡ last_name ps → (if signed then (if after then Some (Some p.0) else None) else Some last) ≡ Some next → IsRising text_cmp (ps ++ filter is_signed (p ∷ [])) × (next ≡ last_name (ps ++ filter is_signed (p ∷ [])))
after_by ps p last next true true s a rise was is =
    let now : next ≡ Some p.0 = cc in
    let after : is_after (last_name ps) p.0 ≡ true = ap (λ (l : Option (List ℕ)). is_after l p.0) (sym was) ∙ a in
    rw s (rises_push ps p rise after, now ∙ sym (last_name-push ps p))
after_by ps p last next true false s a rise was is = absurd cc
after_by ps p last next false after s a rise was is =
    let now : next ≡ last = cc in
    rw (s, append-nil ps) (rise, now ∙ was)

pub rises_more : (params : NamedValues) (place : ℕ) (p : Param) (last next : Option (List ℕ)) → slice_get params place ≡ Some p → IsRising text_cmp (filter is_signed (take place params)) → last ≡ last_name (filter is_signed (take place params)) → after_name last p.0 ≡ Some next → IsRising text_cmp (filter is_signed (take (place + 1) params)) × (next ≡ last_name (filter is_signed (take (place + 1) params)))
rises_more params place p last next at rise was is =
    let before = filter is_signed (take place params) in
    let more : filter is_signed (take (place + 1) params) ≡ before ++ filter is_signed (p ∷ []) =
    ap (filter is_signed) (take_more params place p (slice_get_within params place p at) ∙ ap (λ q. take place params ++ q ∷ []) (get_or_from_slice_get params place p p at)) ∙ filter-append is_signed (take place params) (p ∷ []) in
    subst (λ (ps : NamedValues). IsRising text_cmp ps × (next ≡ last_name ps)) (sym more)
    (after_by before p last next (is_signed p) (is_after last p.0) refl refl rise was is)

pub drop_more : (params : NamedValues) (place : ℕ) (p : Param) → slice_get params place ≡ Some p → filter is_signed (drop place params) ≡ filter is_signed (p ∷ []) ++ filter is_signed (drop (place + 1) params)
drop_more params place p at =
    let within = slice_get_within params place p at in
    let first : drop place params ≡ p ∷ drop (place + 1) params =
    rw (add-one, drop-cons params place p) (ap (λ q. q ∷ drop (suc place) params) (get_or_from_slice_get params place p p at)) in
    ap (filter is_signed) first ∙ filter-append is_signed (p ∷ []) (drop (place + 1) params)

-- a parameter that isn't signed brings nothing
pub next_unsigned : (text : List ℕ) (is_first : Bool) (p : Param) → is_signed p ≡ false → (more : NamedValues) → text ++ left_of is_first more ≡ text ++ left_of is_first (filter is_signed (p ∷ []) ++ more)
next_unsigned text is_first p unsigned more = rw unsigned refl

-- one that is the first
pub next_first : (text next : List ℕ) (p : Param) → is_signed p ≡ true → next ≡ text ++ written p → (more : NamedValues) → next ++ left_of false more ≡ text ++ left_of true (filter is_signed (p ∷ []) ++ more)
next_first text next p signed is more = rw (signed, is) (append_assoc text (written p) (left_of false more))

-- one that isn't
pub next_later : (text next : List ℕ) (p : Param) → is_signed p ≡ true → next ≡ (text ++ ampersand ∷ []) ++ written p → (more : NamedValues) → next ++ left_of false more ≡ text ++ left_of false (filter is_signed (p ∷ []) ++ more)
next_later text next p signed is more =
    rw (signed, is) (append_assoc (text ++ ampersand ∷ []) (written p) (left_of false more) ∙ append_assoc text (ampersand ∷ []) (written p ++ left_of false more))

-- the same, for a name and a value that were lent
pub next_as : (text next : List ℕ) (is_first first : Bool) (n v name value : List ℕ) (more : NamedValues) → n ≡ name → v ≡ value → ((more : NamedValues) → next ++ left_of first more ≡ text ++ left_of is_first (filter is_signed ((n, v) ∷ []) ++ more)) → next ++ left_of first more ≡ text ++ left_of is_first (filter is_signed ((name, value) ∷ []) ++ more)
next_as text next is_first first n v name value more named valued says =
    says more ∙ (ap (λ (n : List ℕ). text ++ left_of is_first (filter is_signed ((n, v) ∷ []) ++ more)) named ∙ ap (λ (v : List ℕ). text ++ left_of is_first (filter is_signed ((name, v) ∷ []) ++ more)) valued)

-- a host in lower case
lower_by : (b : ℕ) → is_lower b ≡ true → to_ascii_lowercase b ≡ b
lower_by b low = grind (arith, nat_tests)

and_both : (a b : Bool) → (a && b) ≡ true → (a ≡ true) × (b ≡ true)
and_both true true is = (refl, refl)
and_both true false is = absurd cc
and_both false b is = absurd cc

pub lower_same : (host : List ℕ) → list_all is_lower host ≡ true → map to_ascii_lowercase host ≡ host
lower_same [] low = refl
lower_same (b ∷ host) low =
    let both = and_both (is_lower b) (list_all is_lower host) low in
    ap (λ (c : ℕ). c ∷ map to_ascii_lowercase host) (lower_by b both.0) ∙ ap (λ (more : List ℕ). b ∷ more) (lower_same host both.1)
