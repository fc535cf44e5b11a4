-- One parameter more: what its entry has then.
use Rattle.std.proofs.Common.{◌≡◌, ℕ, ◌+◌, ◌<◌, Bool, true, false, cond, List, [], ◌∷◌, ◌++◌, get_or, length, map, take, Option, Some, None, unwrap_or, refl, sym, ap, ◌∙◌, eqb, append-nil}
use Rattle.std.specs.List.{filter_map, cons_option}
use Rattle.std.proofs.lemmas.List.{map-append, take_more}
use Rattle.std.proofs.lemmas.List.Elements.{filter_map-append}
use Rattle.sdb_base.specs.Pairs.{NamedValues}
use Rattle.sdb_action.specs.declared.numbers.EntryKind.{EntryKind}
use Rattle.sdb_action.specs.Numbers.{Part, part_of}
use Rattle.sdb_action.specs.Entries.{value_at, part_in, there, entry_at}

unwrap-there : (parts : NamedValues) → unwrap_or (there parts) [] ≡ parts
unwrap-there [] = refl
unwrap-there (part ∷ parts) = refl

there-push : (parts : NamedValues) (part : List ℕ × List ℕ) → there (parts ++ part ∷ []) ≡ Some (parts ++ part ∷ [])
there-push [] part = refl
there-push (first ∷ parts) part = refl

-- what the parts are with one that may be there
added : (parts : NamedValues) (part : List ℕ × List ℕ) (b : Bool) → cond b (Some (unwrap_or (there parts) [] ++ part ∷ [])) (there parts) ≡ there (parts ++ cons_option (cond b (Some part) None) [])
added parts part true = ap (λ l. Some (l ++ part ∷ [])) (unwrap-there parts) ∙ sym (there-push parts part)
added parts part false = ap there (sym (append-nil parts))

taken_in : (kind : EntryKind) (params : NamedValues) (param : List ℕ × List ℕ) (q : ℕ) (part : Option Part) → part_of kind param.0 ≡ part
    → filter_map (part_in kind q) params ++ cons_option (value_at q part param.1) [] ≡ filter_map (part_in kind q) (params ++ param ∷ [])
taken_in kind params param q part e =
    ap (λ o. filter_map (part_in kind q) params ++ cons_option (value_at q o param.1) []) (sym e)
    ∙ sym (filter_map-append (part_in kind q) params (param ∷ []))

-- a parameter that is no part of an entry changes none
pub no_part : (kind : EntryKind) (params : NamedValues) (param : List ℕ × List ℕ) (q : ℕ) → part_of kind param.0 ≡ None → entry_at kind params q ≡ entry_at kind (params ++ param ∷ []) q
no_part kind params param q e =
    ap there (sym (append-nil (filter_map (part_in kind q) params)) ∙ taken_in kind params param q None e)

-- one that is changes its entry alone
pub one_part : (kind : EntryKind) (params : NamedValues) (param : List ℕ × List ℕ) (part : Part) (q : ℕ) → part_of kind param.0 ≡ Some part
    → cond (eqb part.0 q) (Some (unwrap_or (entry_at kind params q) [] ++ (part.1, param.1) ∷ [])) (entry_at kind params q) ≡ entry_at kind (params ++ param ∷ []) q
one_part kind params param part q e =
    added (filter_map (part_in kind q) params) (part.1, param.1) (eqb part.0 q)
    ∙ ap there (taken_in kind params param q (Some part) e)

-- the names and values of the first members, and those of the one after them
pub taken_more : {A : Type 0} (named : A → List ℕ × List ℕ) (pairs : List A) (i : ℕ) (pair : A) → i < length pairs → pair ≡ get_or pairs i pair → map named (take i pairs) ++ named pair ∷ [] ≡ map named (take (i + 1) pairs)
taken_more named pairs i pair within at =
    sym (ap (map named) (take_more pairs i pair within ∙ ap (λ p. take i pairs ++ p ∷ []) (sym at)) ∙ map-append named (take i pairs) (pair ∷ []))

-- what is its own name and value
pub map-same : (pairs : NamedValues) → map (λ pair. pair) pairs ≡ pairs
map-same [] = refl
map-same (pair ∷ pairs) = ap (λ l. pair ∷ l) (map-same pairs)
