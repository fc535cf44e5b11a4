-- Parameters that agree on the names of an action's rules ask for the same.
use Rattle.std.proofs.Common.{◌≡◌, ℕ, Bool, true, false, cond, ◌||◌, eqb, List, [], ◌∷◌, ◌++◌, length, map, Option, Some, None, is_some, Result, Ok, Err, refl, sym, ap, ◌∙◌, subst}
use Rattle.std.specs.List.{AllByRecursion, filter_map, cons_option, list_any}
use Rattle.std.specs.List.Sorted.{IsPermutation, IsStrictlySortedBy}
use Rattle.std.specs.Map.{lookup}
use Rattle.std.specs.Option.{is_none}
use Rattle.std.specs.Ordering.{nat_cmp}
use Rattle.std.specs.Prelude.{codes, nat_lt}
use Rattle.std.specs.Str.{bytes_eq}
use Rattle.std.specs.Cmp.Lexicographic.{nat_list_eq_equiv}
use Rattle.std.proofs.lemmas.Bool.{eqb-true, eq-eqb, true≢false}
use Rattle.std.proofs.lemmas.Cmp.{nat_cmp_total}
use Rattle.std.proofs.lemmas.List.{length-map}
use Rattle.std.proofs.lemmas.List.Sorted.{Contains-permutation, IsPermutation-sym}
use Rattle.std.proofs.lemmas.Map.Lookups.{exact_unsigned}
use Rattle.std.proofs.lemmas.Map.Views.{Contains-from_lookup, lookup-from_Contains}
use Rattle.std.proofs.lemmas.Option.{same_Some}
use Rattle.std.proofs.lemmas.Slice.Eq.{bytes_eq-Decides}
use Rattle.sdb_base.specs.Pairs.{NamedValues, HasDistinctNames, value_of}
use Rattle.sdb_base.specs.Results.{and_then, before_rest, each}
use Rattle.sdb_base.proofs.Cases.{by_bool}
use Rattle.sdb_base.proofs.KeyLemmas.{same_members}
use Rattle.sdb_tables.specs.Rules.{Field, Row, judged, field_by, fields_by}
use Rattle.sdb_tables.specs.declared.refusal.Refusal.{Refusal}
use Rattle.sdb_tables.specs.declared.refusal.Refusal.TheVariants.{NumberSubmittedAttributesExceeded, NumberSubmittedItemsExceeded}
use Rattle.sdb_action.specs.declared.numbers.EntryKind.{EntryKind}
use Rattle.sdb_action.specs.declared.numbers.EntryKind.TheVariants.{Attribute, AttributeName, Expected, Item}
use Rattle.sdb_action.specs.Numbers.{Part, part_of}
use Rattle.sdb_action.specs.Entries.{place_in, places, value_at, part_in, parts_at, entries, there}
use Rattle.sdb_action.proofs.Places.{is_there, place_there, rising_sorted}
use Rattle.sdb_action.proofs.SpellingLemmas.{one_part_name}

bytes_same : (a b : List ℕ) → bytes_eq a b ≡ true → a ≡ b
bytes_same a b e = (bytes_eq-Decides a b).0 e

-- what two lists have under names that pass a test is the same
abbrev pub Agree : (List ℕ → Bool) → NamedValues → NamedValues → Type 0
Agree test params others = (name : List ℕ) → test name ≡ true → value_of params name ≡ value_of others name

-- under every name
abbrev pub Same : NamedValues → NamedValues → Type 0
Same params others = (name : List ℕ) → value_of params name ≡ value_of others name

-- ---- fields

pub fields_agree : (test : List ℕ → Bool) (params others : NamedValues) → Agree test params others → (rows : List Row) → AllByRecursion (λ row. test row.name ≡ true) rows → fields_by params rows ≡ fields_by others rows
unfolding fields_by
fields_agree test params others agree [] named = refl
fields_agree test params others agree (row ∷ rows) named =
    ap (λ field. before_rest (judged row field) (each (field_by params) rows)) (agree row.name named.0)
    ∙ ap (before_rest (judged row (value_of others row.name))) (fields_agree test params others agree rows named.1)

all_named : (rows : List Row) → AllByRecursion (λ row. true ≡ true) rows
all_named [] = tt
all_named (row ∷ rows) = (refl, all_named rows)

pub fields_same : (params others : NamedValues) → Same params others → (rows : List Row) → fields_by params rows ≡ fields_by others rows
fields_same params others same rows = fields_agree (λ name. true) params others (λ name _. same name) rows (all_named rows)

-- ---- parts of entries

-- what stands under a part's name where a parameter may be a part before the rest
abbrev with_part : ℕ → List ℕ → List ℕ → NamedValues → Option Part → Option (List ℕ)
with_part place called value rest part = value_of (cons_option (value_at place part value) rest) called

-- what stands under a name behind a parameter that may have it
abbrev with_param : List ℕ → (List ℕ × List ℕ) → Option (List ℕ) → Option (List ℕ)
with_param name param found = cond (bytes_eq name param.0) (Some param.1) found

found_here : (name : List ℕ) (param : List ℕ × List ℕ) (found : Option (List ℕ)) → bytes_eq name param.0 ≡ true → with_param name param found ≡ Some param.1
found_here name param found e = ap (λ b. cond b (Some param.1) found) e

found_behind : (name : List ℕ) (param : List ℕ × List ℕ) (found : Option (List ℕ)) → bytes_eq name param.0 ≡ false → with_param name param found ≡ found
found_behind name param found e = ap (λ b. cond b (Some param.1) found) e

-- a parameter that is a part
one_more : (kind : EntryKind) (place : ℕ) (called name : List ℕ) → part_of kind name ≡ Some (place, called) → (param : List ℕ × List ℕ) (rest : NamedValues) (found : Option (List ℕ)) (part : Part) → part_of kind param.0 ≡ Some part → value_of rest called ≡ found → with_part place called param.1 rest (Some part) ≡ with_param name param found
one_more kind place called name is param rest found part e ih =
    by_bool (bytes_eq name param.0)
    (λ same.
    let this : Part = (place, called) in
    let whole : this ≡ part = same_Some this part (sym is ∙ ap (part_of kind) (bytes_same name param.0 same) ∙ e) in
    ap (λ (p : Part). with_part place called param.1 rest (Some p)) (sym whole)
    ∙ ap (λ b. value_of (cons_option (cond b (Some (called, param.1)) None) rest) called) (eq-eqb place place refl)
    ∙ ap (λ b. cond b (Some param.1) (value_of rest called)) (nat_list_eq_equiv.refl called)
    ∙ sym (found_here name param found same))
    (λ other.
    by_bool (eqb part.0 place)
    (λ here.
    by_bool (bytes_eq called part.1)
    (λ same.
    let there : Part = (part.0, part.1) in
    let this : Part = (place, called) in
    let whole : there ≡ this = ap (λ p. (p, part.1)) (eqb-true part.0 place here) ∙ ap (λ c. (place, c)) (sym (bytes_same called part.1 same)) in
    let one : name ≡ param.0 = one_part_name kind name param.0 this is (e ∙ ap Some whole) in
    absurd (true≢false (sym (nat_list_eq_equiv.refl name) ∙ ap (bytes_eq name) one ∙ other)))
    (λ off.
    ap (λ b. value_of (cons_option (cond b (Some (part.1, param.1)) None) rest) called) here
    ∙ ap (λ b. cond b (Some param.1) (value_of rest called)) off
    ∙ ih
    ∙ sym (found_behind name param found other)))
    (λ elsewhere.
    ap (λ b. value_of (cons_option (cond b (Some (part.1, param.1)) None) rest) called) elsewhere
    ∙ ih
    ∙ sym (found_behind name param found other)))

-- and one that may be none
maybe_more : (kind : EntryKind) (place : ℕ) (called name : List ℕ) → part_of kind name ≡ Some (place, called) → (param : List ℕ × List ℕ) (rest : NamedValues) (found : Option (List ℕ)) (part : Option Part) → part_of kind param.0 ≡ part → value_of rest called ≡ found → with_part place called param.1 rest part ≡ with_param name param found
maybe_more kind place called name is param rest found None e ih =
    by_bool (bytes_eq name param.0)
    (λ same. let no : None ≡ Some (place, called) = sym e ∙ ap (part_of kind) (sym (bytes_same name param.0 same)) ∙ is in absurd (cc))
    (λ other. ih ∙ sym (found_behind name param found other))
maybe_more kind place called name is param rest found (Some part) e ih = one_more kind place called name is param rest found part e ih

-- the name that is a part of the entry at a place has the part's value
part_value : (kind : EntryKind) (place : ℕ) (called name : List ℕ) → part_of kind name ≡ Some (place, called) → (params : NamedValues) → value_of (parts_at kind params place) called ≡ value_of params name
part_value kind place called name is [] = refl
part_value kind place called name is (param ∷ params) =
    maybe_more kind place called name is param (parts_at kind params place) (value_of params name) (part_of kind param.0) refl (part_value kind place called name is params)

-- what is there under a part's name comes from a name
record ComesFrom (kind : EntryKind) (place : ℕ) (called : List ℕ) : Type 0 where
  name : List ℕ
  is : part_of kind name ≡ Some (place, called)

part_from : (kind : EntryKind) (place : ℕ) (called value : List ℕ) (params : NamedValues) → value_of (parts_at kind params place) called ≡ Some value → ComesFrom kind place called
part_from kind place called value [] e = absurd (cc)
part_from kind place called value (param ∷ params) e = by_part (part_of kind param.0) (part_from kind place called value params) refl e
  where
    by_part : (part : Option Part) → (value_of (parts_at kind params place) called ≡ Some value → ComesFrom kind place called) → part_of kind param.0 ≡ part → with_part place called param.1 (parts_at kind params place) part ≡ Some value → ComesFrom kind place called
    by_part None behind is e = behind e
    by_part (Some part) behind is e =
        by_bool (eqb part.0 place)
        (λ here.
        let at : value_of ((part.1, param.1) ∷ parts_at kind params place) called ≡ Some value = sym (ap (λ b. value_of (cons_option (cond b (Some (part.1, param.1)) None) (parts_at kind params place)) called) here) ∙ e in
        by_bool (bytes_eq called part.1)
        (λ same.
        let there : Part = (part.0, part.1) in
        let this : Part = (place, called) in
        let whole : there ≡ this = ap (λ p. (p, part.1)) (eqb-true part.0 place here) ∙ ap (λ c. (place, c)) (sym (bytes_same called part.1 same)) in
        record { name = param.0; is = is ∙ ap Some whole })
        (λ off. behind (sym (ap (λ b. cond b (Some param.1) (value_of (parts_at kind params place) called)) off) ∙ at)))
        (λ elsewhere. behind (sym (ap (λ b. value_of (cons_option (cond b (Some (part.1, param.1)) None) (parts_at kind params place)) called) elsewhere) ∙ e))

-- a name is a part of some entry of the list
abbrev pub is_part : EntryKind → List ℕ → Bool
is_part kind name = is_some (part_of kind name)

pub parts_agree : (kind : EntryKind) (params others : NamedValues) → Agree (is_part kind) params others → (place : ℕ) → Same (parts_at kind params place) (parts_at kind others place)
parts_agree kind params others agree place called = either (value_of (parts_at kind params place) called) (value_of (parts_at kind others place) called) refl refl
  where
    through : ComesFrom kind place called → value_of (parts_at kind params place) called ≡ value_of (parts_at kind others place) called
    through from =
        part_value kind place called from.name from.is params
        ∙ agree from.name (ap is_some from.is)
        ∙ sym (part_value kind place called from.name from.is others)

    either : (o p : Option (List ℕ)) → value_of (parts_at kind params place) called ≡ o → value_of (parts_at kind others place) called ≡ p → value_of (parts_at kind params place) called ≡ value_of (parts_at kind others place) called
    either None None e f = e ∙ sym f
    either None (Some w) e f = through (part_from kind place called w others f)
    either (Some v) p e f = through (part_from kind place called v params e)

-- ---- places

same_there : (parts others : NamedValues) → Same parts others → is_some (there parts) ≡ is_some (there others)
same_there [] [] same = refl
same_there [] (other ∷ others) same =
    let no : None ≡ Some other.1 = same other.0 ∙ ap (λ b. cond b (Some other.1) (value_of others other.0)) (nat_list_eq_equiv.refl other.0) in absurd (cc)
same_there (part ∷ parts) [] same =
    let no : None ≡ Some part.1 = sym (same part.0) ∙ ap (λ b. cond b (Some part.1) (value_of parts part.0)) (nat_list_eq_equiv.refl part.0) in absurd (cc)
same_there (part ∷ parts) (other ∷ others) same = refl

places_agree : (kind : EntryKind) (params others : NamedValues) → Agree (is_part kind) params others → places kind params ≡ places kind others
places_agree kind params others agree =
    same_members nat_cmp_total exact_unsigned (places kind params) (places kind others)
    (rising_sorted (filter_map (place_in kind) params)) (rising_sorted (filter_map (place_in kind) others))
    (λ q. place_there kind params q ∙ same_there (parts_at kind params q) (parts_at kind others q) (parts_agree kind params others agree q) ∙ sym (place_there kind others q))

-- entries that a reading can't tell apart, as many on both sides
pub record Twins (list others : List NamedValues) : Type 0 where
  pub at : List ℕ
  pub one : ℕ → NamedValues
  pub other : ℕ → NamedValues
  pub same : (n : ℕ) → Same (one n) (other n)
  pub list_is : list ≡ map one at
  pub others_is : others ≡ map other at

pub entries_agree : (kind : EntryKind) (params others : NamedValues) → Agree (is_part kind) params others → Twins (entries kind params) (entries kind others)
unfolding entries
entries_agree kind params others agree = record {
  at = places kind params;
  one = parts_at kind params;
  other = parts_at kind others;
  same = parts_agree kind params others agree;
  list_is = refl;
  others_is = ap (map (parts_at kind others)) (sym (places_agree kind params others agree));
}
