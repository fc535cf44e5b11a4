-- Digits written from the last to the first.
use Rattle.std.proofs.Common.{◌≡◌, ℕ, zero, suc, ◌+◌, ◌/◌, ◌%◌, ◌<◌, List, ◌++◌, length, drop, slice_set, sym, refl, add-one, arith, append_assoc}
use Rattle.std.proofs.lemmas.Grind.{drop-set_at}
use Rattle.sdb_reply.specs.Digits.{digit, padded}

-- one digit more is written, before those that are
pub padded-step : (base place left n : ℕ) (digits : List ℕ) → place ≡ left + 1 → left < length digits
    → padded base left (n / base) ++ drop left (slice_set digits left (digit (n % base))) ≡ padded base place n ++ drop place digits
unfolding padded
padded-step base zero left n digits e h = absurd (omega arith)
padded-step base (suc width) left n digits e h =
    let same : width ≡ left = omega arith in
    rw (drop-set_at digits left left (digit (n % base)) refl h, same, add-one) (sym (append_assoc (padded base left (n / base)) _ _))

-- no digit is left to write
pub padded-none : (base n place : ℕ) (digits : List ℕ) → place ≡ 0 → padded base place n ++ drop place digits ≡ digits
unfolding padded
padded-none base n zero digits e = refl
padded-none base n (suc place) digits e = absurd (omega arith)
