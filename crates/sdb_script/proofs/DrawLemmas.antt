-- Sums modulo a number.
use Rattle.std.proofs.Common.{◌≡◌, ℕ, ◌+◌, ◌*◌, ◌/◌, ◌%◌, sym, ap, ◌∙◌, arith}
use Rattle.std.proofs.Math.Nat.{add-mul-mod_self_left, mod-add-div}

pub mod-add : (a c n : ℕ) → (a % n + c) % n ≡ (a + c) % n
mod-add a c n =
    let sum : a % n + c + n * (a / n) ≡ a + c = omega (arith, mod-add-div a n) in
    sym (add-mul-mod_self_left (a % n + c) n (a / n)) ∙ ap (λ x. x % n) sum
