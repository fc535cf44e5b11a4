-- Steps that may fail, one after the other: the first failure decides.
use Rattle.std.specs.Prelude.{List, [], ◌∷◌, Result, Ok, Err}

-- what follows a step, where the step doesn't fail
abbrev pub and_then : {A B E : Type 0} → Result A E → (A → Result B E) → Result B E
and_then (Err fault) next = Err fault
and_then (Ok value) next = next value

infixl 10 ◌>>=◌
-- the same, written between its two sides
abbrev pub ◌>>=◌ : {A B E : Type 0} → Result A E → (A → Result B E) → Result B E
step >>= next = and_then step next

-- a member before those that the later ones give
abbrev pub before_rest : {B E : Type 0} → Result B E → Result (List B) E → Result (List B) E
before_rest (Err fault) rest = Err fault
before_rest (Ok member) (Err fault) = Err fault
before_rest (Ok member) (Ok members) = Ok (member ∷ members)

-- what each member gives, in order, or the failure of the first that fails
abbrev pub each : {A B E : Type 0} → (A → Result B E) → List A → Result (List B) E
each read [] = Ok []
each read (x ∷ xs) = before_rest (read x) (each read xs)
