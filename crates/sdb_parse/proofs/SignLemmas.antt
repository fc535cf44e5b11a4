-- Signs that test as the same are the same.
use Rattle.std.proofs.Common.{◌≡◌, ℕ, true, List, [], ◌∷◌, get_or, refl, sym, ap, ◌∙◌}
use Rattle.std.proofs.lemmas.Bool.{eqb-true, eq-eqb}
use Rattle.sdb_parse.specs.declared.sign.Sign.{Sign}
use Rattle.sdb_parse.specs.declared.sign.Sign.TheVariants as sign
use Rattle.sdb_parse.specs.Signs.{place, same}

abbrev signs : List Sign
signs = sign.Open ∷ sign.Close ∷ sign.Comma ∷ sign.Star ∷ sign.Equal ∷ sign.Unequal ∷ sign.Less ∷ sign.LessEqual ∷ sign.Greater ∷ sign.GreaterEqual ∷ sign.Or ∷ sign.And ∷ sign.Not ∷ sign.From ∷ sign.Where ∷ sign.Select ∷ sign.Like ∷ sign.Null ∷ sign.Is ∷ sign.Order ∷ sign.By ∷ sign.Asc ∷ sign.Desc ∷ sign.In ∷ sign.Between ∷ sign.Intersection ∷ sign.Limit ∷ sign.Every ∷ sign.ItemName ∷ sign.Count ∷ sign.Name ∷ sign.Quoted ∷ sign.Digits ∷ []

abbrev at : ℕ → Sign
at n = get_or signs n sign.Name

at_place : (s : Sign) → at (place s) ≡ s
at_place sign.Open = refl
at_place _ = refl

pub same_is : (a b : Sign) → same a b ≡ true → a ≡ b
same_is a b e = sym (at_place a) ∙ (ap at (eqb-true (place a) (place b) e) ∙ at_place b)

pub same_self : (s : Sign) → same s s ≡ true
same_self s = eq-eqb (place s) (place s) refl

pub is_same : (a b : Sign) → a ≡ b → same a b ≡ true
is_same a b e = eq-eqb (place a) (place b) (ap place e)
