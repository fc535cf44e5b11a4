-- The value of digits that are read from the left.
use Rattle.std.proofs.Common.{◌≡◌, ℕ, ◌+◌, ◌-◌, ◌*◌, ◌<◌, ◌≤◌, List, [], ◌∷◌, length, drop, get_or, Some, None, nat_le, if◌then◌else◌, refl, arith, drop-cons, add-one}
use Rattle.std.proofs.lemmas.Bool.{lt-leb}
use Rattle.sdb_base.specs.Decimal.{value_after}

pub value_after-grows : (n : ℕ) (digits : List ℕ) → n ≤ value_after n digits
value_after-grows n [] = omega arith
value_after-grows n (c ∷ cs) = let h = value_after-grows (n * 10 + (c - 48)) cs in omega arith

-- one digit more
pub value_after-drop : (n i : ℕ) (digits : List ℕ) → i < length digits → value_after n (drop i digits) ≡ value_after (n * 10 + (get_or digits i 0 - 48)) (drop (i + 1) digits)
value_after-drop n i digits h = rw (add-one, drop-cons digits i 0 h) refl

-- a value that has passed the greatest one asked for stays above it, whatever digits follow
pub value_after-too_great : (n i most : ℕ) (digits : List ℕ) → i < length digits → value_after n (drop i digits) ≡ value_after 0 digits → most < n * 10 + (get_or digits i 0 - 48)
    → (if nat_le (value_after 0 digits) most then Some (value_after 0 digits) else None) ≡ None
value_after-too_great n i most digits h e above =
    let grown : n * 10 + (get_or digits i 0 - 48) ≤ value_after (n * 10 + (get_or digits i 0 - 48)) (drop (i + 1) digits) = value_after-grows _ (drop (i + 1) digits) in
    let whole : value_after n (drop i digits) ≡ value_after (n * 10 + (get_or digits i 0 - 48)) (drop (i + 1) digits) = value_after-drop n i digits h in
    let great : most < value_after 0 digits = omega arith in
    rw (lt-leb _ _ great) refl
