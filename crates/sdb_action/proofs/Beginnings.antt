-- What follows a beginning.
use Rattle.std.proofs.Common.{◌≡◌, ℕ, cond, List, [], ◌∷◌, ◌++◌, Option, Some, None, MatchOption, refl, sym, ap, ◌∙◌, eqb}
use Rattle.std.specs.Option.{option_copied}
use Rattle.std.specs.Str.Pattern.{FindsTextPrefix, StripsPrefix}
use Rattle.std.proofs.lemmas.Bool.{eqb-true, eq-eqb}
use Rattle.std.proofs.lemmas.Option.{same_Some}
use denote.Ref.{Bor}
use Rattle.sdb_base.proofs.Cases.{by_bool}
use Rattle.sdb_action.specs.Numbers.{after_prefix}

pub after_prefix-is : (front text rest : List ℕ) → after_prefix front text ≡ Some rest → text ≡ front ++ rest
unfolding after_prefix
after_prefix-is [] text rest e = same_Some text rest e
after_prefix-is (c ∷ cs) [] rest e = cc
after_prefix-is (c ∷ cs) (d ∷ ds) rest e =
    by_bool (eqb c d)
    (λ same.
    let told : after_prefix cs ds ≡ Some rest = sym (ap (λ b. cond b (after_prefix cs ds) None) same) ∙ e in
    ap (λ x. x ∷ ds) (sym (eqb-true c d same)) ∙ ap (λ l. c ∷ l) (after_prefix-is cs ds rest told))
    (λ other. let none : None ≡ Some rest = sym (ap (λ b. cond b (after_prefix cs ds) None) other) ∙ e in cc)

pub after_prefix-front : (front rest : List ℕ) → after_prefix front (front ++ rest) ≡ Some rest
unfolding after_prefix
after_prefix-front [] rest = refl
after_prefix-front (c ∷ cs) rest = ap (λ b. cond b (after_prefix cs (cs ++ rest)) None) (eq-eqb c c refl) ∙ after_prefix-front cs rest

-- what `strip_prefix` answers
pub after_prefix-stripped : (front text : List ℕ) (r : Option (Bor (List ℕ))) → MatchOption r (FindsTextPrefix front text None) (λ x. StripsPrefix (FindsTextPrefix front) text x.now) → option_copied r ≡ after_prefix front text
after_prefix-stripped front text None h = none (after_prefix front text) refl
  where
    none : (o : Option (List ℕ)) → after_prefix front text ≡ o → None ≡ after_prefix front text
    none None e = sym e
    none (Some rest) e = absurd (h rest (after_prefix-is front text rest e))
after_prefix-stripped front text (Some x) h =
    let whole : text ≡ front ++ x.now = h.1.1 ∙ ap (λ l. front ++ l) (sym h.2) in
    sym (ap (after_prefix front) whole ∙ after_prefix-front front x.now)
