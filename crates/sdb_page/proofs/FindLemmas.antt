-- A walk over the items of a domain that gathers those which have a value that fits.
use Rattle.std.proofs.Common.{◌≡◌, Bool, true, false, cond, List, [], ◌∷◌, ◌++◌, filter, refl, sym, ap, ap₂, ◌∙◌}
use Rattle.std.proofs.lemmas.List.Elements.{filter-append}

pub nothing_more : {X : Type 0} (xs : List X) → xs ++ [] ≡ xs
nothing_more [] = refl
nothing_more (x ∷ xs) = ap (λ l. x ∷ l) (nothing_more xs)

-- one item more
module _ {X : Type 0} (p : X → Bool) (so_far gathered : List X) (x : X) (are : gathered ≡ filter p so_far) where
  pub filter_takes : p x ≡ true → gathered ++ x ∷ [] ≡ filter p (so_far ++ x ∷ [])
  filter_takes holds = ap₂ (λ a b. a ++ cond b (x ∷ []) []) are (sym holds) ∙ sym (filter-append p so_far (x ∷ []))

  pub filter_leaves : p x ≡ false → gathered ≡ filter p (so_far ++ x ∷ [])
  filter_leaves fails = are ∙ sym (nothing_more (filter p so_far)) ∙ ap (λ b. filter p so_far ++ cond b (x ∷ []) []) (sym fails) ∙ sym (filter-append p so_far (x ∷ []))
