-- Chains of options and options under a test, taken apart.
use Rattle.std.proofs.Common.{◌≡◌, Bool, true, false, cond, Option, Some, None, refl}
use Rattle.sdb_base.specs.Options.{◌>>=◌}

-- what a chain gives, its first link gave
pub on_some : {A B : Type 0} {P : Type 0} (o : Option A) (f : A → Option B) (y : B) → (o >>= f) ≡ Some y → ((x : A) → o ≡ Some x → f x ≡ Some y → P) → P
on_some None f y e goes = absurd cc
on_some (Some x) f y e goes = goes x refl e

pub on_guard : {A : Type 0} (b : Bool) (x y : A) → cond b (Some x) None ≡ Some y → (b ≡ true) × (x ≡ y)
on_guard true x y e = (refl, cc)
on_guard false x y e = absurd cc

pub on_other : {A : Type 0} (b : Bool) (x y : A) → cond b None (Some x) ≡ Some y → (b ≡ false) × (x ≡ y)
on_other true x y e = absurd cc
on_other false x y e = (refl, cc)

pub on_none : {A : Type 0} (b : Bool) (x : A) → cond b (Some x) None ≡ None → b ≡ false
on_none true x e = absurd cc
on_none false x e = refl
