-- What holds after steps that may fail.
use Rattle.std.proofs.Common.{◌≡◌, suc, List, [], ◌∷◌, length, Result, Ok, Err, All, refl, subst, ap}
use Rattle.std.specs.Result.{IfOk}
use Rattle.std.proofs.lemmas.List.Elements.{All-nil, All-cons}
use Rattle.sdb_base.specs.Results.{and_then, before_rest, each}

-- what holds of each value that the second step gives after the first
pub and_then-if : {A B E : Type 0} (P : B → Type 0) (step : Result A E) (next : A → Result B E) → ((a : A) → step ≡ Ok a → IfOk (next a) P) → IfOk (and_then step next) P
and_then-if P (Err fault) next holds = tt
and_then-if P (Ok a) next holds = holds a refl

-- the members that are read: each holds, and they are as many as were there
pub record AreRead {A B : Type 0} (P : B → Type 0) (xs : List A) (ys : List B) : Type 0 where
  pub holds : All P ys
  pub count : length ys ≡ length xs

before_rest-if : {A B E : Type 0} (P : B → Type 0) (x : A) (xs : List A) (first : Result B E) (rest : Result (List B) E) → IfOk first P → IfOk rest (AreRead P xs) → IfOk (before_rest first rest) (AreRead P (x ∷ xs))
before_rest-if P x xs (Err fault) rest one others = tt
before_rest-if P x xs (Ok y) (Err fault) one others = tt
before_rest-if P x xs (Ok y) (Ok ys) one others = record { holds = All-cons P y ys one others.holds; count = ap suc others.count }

pub each-if : {A B E : Type 0} (P : B → Type 0) (read : A → Result B E) → ((x : A) → IfOk (read x) P) → (xs : List A) → IfOk (each read xs) (AreRead P xs)
each-if P read made [] = record { holds = All-nil P; count = refl }
each-if P read made (x ∷ xs) = before_rest-if P x xs (read x) (each read xs) (made x) (each-if P read made xs)

-- what holds where the answer is such a value
pub of_ok : {A E : Type 0} (P : A → Type 0) (given : Result A E) (a : A) → IfOk given P → given ≡ Ok a → P a
of_ok P given a holds e = subst (λ r. IfOk r P) e holds
