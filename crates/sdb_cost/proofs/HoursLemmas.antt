-- Printed units are a text.
use Rattle.std.proofs.Common.{◌≡◌, ℕ, zero, suc, ◌+◌, ◌/◌, ◌%◌, ◌^◌, ◌<◌, List, [], ◌∷◌, ◌++◌, true, false, decimal, nat_lt, if◌then◌else◌, lit<, subst, arith, Result, Err}
use Rattle.std.specs.Result.{IsOk}
use Rattle.std.specs.Str.{IsAscii, IsUtf8}
use Rattle.std.proofs.lemmas.Bool.{false≢true}
use Rattle.std.proofs.lemmas.Fmt.{IsAscii-decimal}
use Rattle.std.proofs.lemmas.Str.{IsAscii-append, IsUtf8-from_ascii}
use Rattle.std.proofs.lemmas.Str.Ascii.{IsAscii-nil}
use Rattle.sdb_reply.specs.Bodies.{hours_text}
use Rattle.sdb_reply.specs.Digits.{digit, padded}

one-ascii : (b : ℕ) → b < 128 → IsAscii (b ∷ [])
one-ascii b low zero = low
one-ascii b low (suc i) = lit< tt

digit-low : (n : ℕ) → n < 10 → digit n < 128
digit-low n low = elim (nat_lt n 10) as (λ t. (if t then 48 + n else 87 + n) < 128) [ true ↦ omega arith | false ↦ omega arith ]

padded-ascii : (width n : ℕ) → IsAscii (padded 10 width n)
unfolding padded
padded-ascii zero n = IsAscii-nil
padded-ascii (suc width) n =
    IsAscii-append (padded 10 width (n / 10)) (digit (n % 10) ∷ []) (padded-ascii width (n / 10)) (one-ascii (digit (n % 10)) (digit-low (n % 10) (omega arith)))

pub hours-utf8 : (units : ℕ) → units < 2 ^ 64 → IsUtf8 (hours_text units)
hours-utf8 units fits =
    IsUtf8-from_ascii (hours_text units)
    (IsAscii-append (decimal (units / 10 ^ 10)) (46 ∷ padded 10 10 units) (IsAscii-decimal (units / 10 ^ 10) (omega arith))
    (IsAscii-append (46 ∷ []) (padded 10 10 units) (one-ascii 46 (lit< tt)) (padded-ascii 10 units)))

-- an error is no value
pub no_value : {A E : Type 0} (r : Result A E) (e : E) → r ≡ Err e → IsOk r → ⊥
no_value r e is ok = false≢true (subst IsOk is ok)
