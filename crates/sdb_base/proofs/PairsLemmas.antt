-- Look-ups among names with values.
use Rattle.std.proofs.Common.{◌≡◌, ℕ, List, [], ◌∷◌, ◌++◌, Bool, true, false, Option, Some, None, cond, refl, sym, ◌∙◌, ap, subst}
use Rattle.std.specs.Option.{option_map, is_some}
use Rattle.std.specs.List.{find, list_any, IsDistinct}
use Rattle.std.specs.Map.{lookup, keys_of}
use Rattle.std.specs.Str.{bytes_eq}
use Rattle.std.specs.Cmp.Lexicographic.{nat_list_eq_equiv}
use Rattle.std.proofs.lemmas.Map.Made.{is_some-lookup}
use Rattle.std.proofs.lemmas.Map.Keys.{IsDistinct-push}
use Rattle.std.proofs.lemmas.List.{map-append}
use Rattle.sdb_base.specs.Pairs.{NamedValues, HasDistinctNames, value_of}

-- the value beside the first pair that a test of names finds is what a look-up by that test finds
pub lookup-find : (test : List ℕ → Bool) (pairs : NamedValues) → option_map (λ pair. pair.1) (find (λ pair. test pair.0) pairs) ≡ lookup test pairs
lookup-find test [] = refl
lookup-find test (pair ∷ pairs) =
    elim (test pair.0) as (λ b. option_map (λ p. p.1) (cond b (Some pair) (find (λ p. test p.0) pairs)) ≡ cond b (Some pair.1) (lookup test pairs))
    [ true ↦ refl | false ↦ lookup-find test pairs ]

-- the value of the pair that a search by name found
pub value_of-found : (pairs : NamedValues) (name : List ℕ) (found : Option (List ℕ × List ℕ)) → found ≡ find (λ pair. bytes_eq name pair.0) pairs → option_map (λ pair. pair.1) found ≡ value_of pairs name
value_of-found pairs name found e = ap (option_map (λ pair. pair.1)) e ∙ lookup-find (bytes_eq name) pairs

pub HasDistinctNames-none : HasDistinctNames []
unfolding IsDistinct
HasDistinctNames-none = tt

-- a name that isn't there yet keeps the names distinct
pub HasDistinctNames-push : (pairs : NamedValues) (name value : List ℕ) → HasDistinctNames pairs → value_of pairs name ≡ None → HasDistinctNames (pairs ++ (name, value) ∷ [])
HasDistinctNames-push pairs name value distinct absent =
    let unseen : list_any (bytes_eq name) (keys_of pairs) ≡ false = sym (is_some-lookup (bytes_eq name) pairs) ∙ ap is_some absent in
    let P : List (List ℕ) → Type 0 = IsDistinct bytes_eq in
    subst P (sym (map-append _ pairs _)) (IsDistinct-push nat_list_eq_equiv (keys_of pairs) name distinct unseen)
