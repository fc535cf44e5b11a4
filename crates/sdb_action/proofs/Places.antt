-- The places of entries: in rising order, and each one that has a part.
use Rattle.std.proofs.Common.{◌≡◌, ℕ, Bool, true, false, cond, ◌||◌, List, [], ◌∷◌, map, Option, Some, None, refl, sym, ap, ◌∙◌, subst, is_eq, is_some, option_map, eqb}
use Rattle.std.specs.Cmp.{unsigned_tied, nat_eq_equiv}
use Rattle.std.specs.Ordering.{nat_cmp}
use Rattle.std.specs.BTreeMap as tree
use Rattle.std.specs.BTreeMap.{BTreeMap}
use Rattle.std.specs.List.{filter_map, cons_option}
use Rattle.std.specs.List.Sorted.{IsStrictlySortedBy}
use Rattle.std.specs.Map.{keys_of, values_of}
use Rattle.std.proofs.lemmas.Cmp.{nat_cmp_total}
use Rattle.std.proofs.lemmas.Map.Lookups.{exact_unsigned}
use Rattle.sdb_base.specs.Entries.{found}
use Rattle.sdb_base.specs.Pairs.{NamedValues}
use Rattle.sdb_base.proofs.Cases.{by_bool}
use Rattle.sdb_base.proofs.EntryLemmas.{key_at, same_entries}
use Rattle.sdb_base.proofs.KeyLemmas.{has, has-insert_key, rising-insert_key}
use Rattle.sdb_action.specs.declared.numbers.EntryKind.{EntryKind}
use Rattle.sdb_action.specs.Numbers.{Part, part_of}
use Rattle.sdb_action.specs.Entries.{rising, place_in, places, value_at, part_in, parts_at, entries, there, entry_at}

pub rising_sorted : (ns : List ℕ) → IsStrictlySortedBy nat_cmp (rising ns)
unfolding IsStrictlySortedBy
rising_sorted [] = tt
rising_sorted (n ∷ ns) = rising-insert_key nat_cmp_total n (rising ns) (rising_sorted ns)

abbrev pub is_there : ℕ → List ℕ → Bool
is_there q ns = has nat_cmp_total q ns

either : (b : Bool) (part : List ℕ × List ℕ) (parts : NamedValues) → (b || is_some (there parts)) ≡ is_some (there (cons_option (cond b (Some part) None) parts))
either true part parts = refl
either false part parts = refl

-- a place is among those that are there just where its entry has a part
pub place_there : (kind : EntryKind) (params : NamedValues) (q : ℕ) → is_there q (places kind params) ≡ is_some (there (parts_at kind params q))
place_there kind params q = named_there params
  where
    by_part : (param : List ℕ × List ℕ) (params : NamedValues) (part : Option Part) → part_of kind param.0 ≡ part → is_there q (places kind params) ≡ is_some (there (filter_map (part_in kind q) params))
        → is_there q (places kind (param ∷ params)) ≡ is_some (there (filter_map (part_in kind q) (param ∷ params)))
    by_part param params None e ih =
        ap (λ part. is_there q (rising (cons_option (option_map (λ p. p.0) part) (filter_map (place_in kind) params)))) e
        ∙ ih
        ∙ sym (ap (λ part. is_some (there (cons_option (value_at q part param.1) (filter_map (part_in kind q) params)))) e)
    by_part param params (Some part) e ih =
        ap (λ part. is_there q (rising (cons_option (option_map (λ p. p.0) part) (filter_map (place_in kind) params)))) e
        ∙ has-insert_key nat_cmp_total q part.0 (places kind params)
        ∙ ap (λ b. b || is_there q (places kind params)) (unsigned_tied q part.0 ∙ nat_eq_equiv.symm q part.0)
        ∙ ap (λ b. eqb part.0 q || b) ih
        ∙ either (eqb part.0 q) (part.1, param.1) (filter_map (part_in kind q) params)
        ∙ sym (ap (λ part. is_some (there (cons_option (value_at q part param.1) (filter_map (part_in kind q) params)))) e)

    named_there : (params : NamedValues) → is_there q (places kind params) ≡ is_some (there (filter_map (part_in kind q) params))
    named_there [] = refl
    named_there (param ∷ params) = by_part param params (part_of kind param.0) refl (named_there params)

-- entries at numbers, as a function of the number gives them
abbrev numbered_by : {X : Type 0} → (ℕ → X) → List ℕ → List (ℕ × X)
numbered_by f ns = map (λ n. (n, f n)) ns

keys-numbered_by : {X : Type 0} (f : ℕ → X) (ns : List ℕ) → keys_of (numbered_by f ns) ≡ ns
keys-numbered_by f [] = refl
keys-numbered_by f (n ∷ ns) = ap (λ l. n ∷ l) (keys-numbered_by f ns)

values-numbered_by : {X : Type 0} (f : ℕ → X) (ns : List ℕ) → values_of (numbered_by f ns) ≡ map f ns
values-numbered_by f [] = refl
values-numbered_by f (n ∷ ns) = ap (λ l. f n ∷ l) (values-numbered_by f ns)

found-numbered_by : {X : Type 0} (f : ℕ → X) (ns : List ℕ) (q : ℕ) → found nat_cmp (numbered_by f ns) q ≡ cond (is_there q ns) (Some (f q)) None
found-numbered_by f [] q = refl
found-numbered_by f (n ∷ ns) q =
    let ih = found-numbered_by f ns q in
    by_bool (is_eq (nat_cmp q n))
    (λ at.
    ap (λ b. cond b (Some (f n)) (found nat_cmp (numbered_by f ns) q)) at
    ∙ ap (λ m. Some (f m)) (sym (key_at exact_unsigned q n at))
    ∙ sym (ap (λ b. cond (b || is_there q ns) (Some (f q)) None) at))
    (λ off.
    ap (λ b. cond b (Some (f n)) (found nat_cmp (numbered_by f ns) q)) off
    ∙ ih
    ∙ sym (ap (λ b. cond (b || is_there q ns) (Some (f q)) None) off))

some_there : (parts : NamedValues) → cond (is_some (there parts)) (Some parts) None ≡ there parts
some_there [] = refl
some_there (part ∷ parts) = refl

found_entry : (kind : EntryKind) (params : NamedValues) (q : ℕ) → found nat_cmp (numbered_by (parts_at kind params) (places kind params)) q ≡ entry_at kind params q
found_entry kind params q =
    found-numbered_by (parts_at kind params) (places kind params) q
    ∙ ap (λ b. cond b (Some (parts_at kind params q)) None) (place_there kind params q)
    ∙ some_there (parts_at kind params q)

-- a map that has at each place the parts of its entry holds the entries in order
pub values_are_entries : (kind : EntryKind) (params : NamedValues) (m : BTreeMap ℕ NamedValues) → tree.IsOrdered nat_cmp m → ((q : ℕ) → tree.get nat_cmp m q ≡ entry_at kind params q) → values_of m.entries ≡ entries kind params
unfolding entries
values_are_entries kind params m ordered gets =
    let all : List (ℕ × NamedValues) = numbered_by (parts_at kind params) (places kind params) in
    let sorted : IsStrictlySortedBy nat_cmp (keys_of all) = subst (IsStrictlySortedBy nat_cmp) (sym (keys-numbered_by (parts_at kind params) (places kind params))) (rising_sorted (filter_map (place_in kind) params)) in
    ap values_of (same_entries nat_cmp_total exact_unsigned m.entries all ordered sorted (λ q. gets q ∙ sym (found_entry kind params q)))
    ∙ values-numbered_by (parts_at kind params) (places kind params)
