-- Parameters that are appended one after the other, and that no two of them have one name.
use Rattle.std.proofs.Common.{◌≡◌, ℕ, ◌+◌, ◌<◌, ◌≤◌, List, [], ◌∷◌, ◌++◌, Bor, length, get_or, map, drop, sym, ap, ◌∙◌, append_assoc, append-nil, add-one, drop-cons, drop_of_length-le}
use Rattle.std.specs.Cmp.Lexicographic.{nat_list_eq_equiv}
use Rattle.std.specs.List.{IsDistinct}
use Rattle.std.specs.Map.Iter.{deref_pair}
use Rattle.std.specs.Str.{bytes_eq}
use Rattle.std.proofs.lemmas.Map.Made.{IsDistinct-from_count}
use Rattle.std.specs.Set.{distinct_count}
use Rattle.sdb_base.specs.Pairs.{NamedValues}

abbrev Lent : Type 0
Lent = Bor (List ℕ) × Bor (List ℕ)

pub params-more : (old new all : NamedValues) (more : List Lent) (at : ℕ) (lent : Lent) (name value : List ℕ) → at < length more
    → name ≡ (get_or more at lent).0.now → value ≡ (get_or more at lent).1.now → new ≡ old ++ (name, value) ∷ []
    → old ++ map deref_pair (drop at more) ≡ all → new ++ map deref_pair (drop (at + 1) more) ≡ all
params-more old new all more at lent name value inside named valued pushed before =
    let rest = map deref_pair (drop (at + 1) more) in
    let next : drop at more ≡ get_or more at lent ∷ drop (at + 1) more = drop-cons more at lent inside ∙ ap (λ n. get_or more at lent ∷ drop n more) (sym (add-one at)) in
    ap (λ l. l ++ rest) pushed
    ∙ append_assoc old ((name, value) ∷ []) rest
    ∙ (λ i. old ++ (named i, valued i) ∷ rest)
    ∙ sym (ap (λ l. old ++ map deref_pair l) next)
    ∙ before

pub params-done : (now all : NamedValues) (more : List Lent) (at : ℕ) → length more ≤ at → now ++ map deref_pair (drop at more) ≡ all → now ≡ all
params-done now all more at past before =
    sym (append-nil now) ∙ ap (λ l. now ++ map deref_pair l) (sym (drop_of_length-le more {i = at} past)) ∙ before

pub distinct : (names : List (List ℕ)) → distinct_count bytes_eq names ≡ length names → IsDistinct bytes_eq names
distinct names counted = IsDistinct-from_count nat_list_eq_equiv names counted
