-- The number that stands first among those that are left.
use Rattle.std.proofs.Common.{◌≡◌, ◌⊎◌, inl, inr, ℕ, Bool, true, false, List, ◌∷◌, ◌||◌, arith}
use Rattle.std.specs.Ordering.{nat_cmp, eq_by_cmp}
use Rattle.std.specs.Set.{is_member}
use Rattle.std.proofs.lemmas.Bool.Decides.{nat_tests}

either : (a b : Bool) → (a || b) ≡ true → (a ≡ true) ⊎ (b ≡ true)
either true b h = inl h
either false b h = inr h

same : (k n : ℕ) → eq_by_cmp nat_cmp k n ≡ true → k ≡ n
same k n h = grind (arith, nat_tests, h)

-- a number among these is the first, or among the others
pub first_or_later : (k n : ℕ) (ns : List ℕ) → is_member (eq_by_cmp nat_cmp) (n ∷ ns) k ≡ true
    → (k ≡ n) ⊎ (is_member (eq_by_cmp nat_cmp) ns k ≡ true)
first_or_later k n ns h =
    elim (either (eq_by_cmp nat_cmp k n) (is_member (eq_by_cmp nat_cmp) ns k) h) [ inl is ↦ inl (same k n is) | inr later ↦ inr later ]
