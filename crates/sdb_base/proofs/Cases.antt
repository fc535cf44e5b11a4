-- Proofs by cases of a truth value or an ordering.
use Rattle.std.proofs.Common.{◌≡◌, Bool, true, false, ◌&&◌, Ordering, Less, Equal, Greater, refl}

pub by_bool : {P : Type 0} (b : Bool) → (b ≡ true → P) → (b ≡ false → P) → P
by_bool true t f = t refl
by_bool false t f = f refl

pub by_ordering : {P : Type 0} (r : Ordering) → (r ≡ Less → P) → (r ≡ Equal → P) → (r ≡ Greater → P) → P
by_ordering Less l e g = l refl
by_ordering Equal l e g = e refl
by_ordering Greater l e g = g refl

-- where both hold together, each does
pub both : (a b : Bool) → a && b ≡ true → (a ≡ true) × (b ≡ true)
both true b e = (refl, e)
both false b e = absurd cc
