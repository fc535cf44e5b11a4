-- A bench that words name has a size from 1 to 100.
use Rattle.std.proofs.Common.{◌≡◌, ℕ, zero, suc, ◌≤◌, Bool, true, false, ◌&&◌, nat_le, if◌then◌else◌, List, [], ◌∷◌, Option, Some, None, option_map, option_and_then, codes, refl, arith}
use Rattle.std.proofs.lemmas.Bool.{and_parts, leb-true}
use Rattle.std.specs.Str.{bytes_eq}
use Rattle.sdb_base.specs.Decimal.{is_decimal, value_after}
use Rattle.sdb_cli.specs.Commands.{asks}
use Rattle.sdb_words.specs.Lists.{above_zero, number_within}
use Rattle.sdb_words.specs.declared.command.Command.TheVariants.{Bare, Replay, Serve, Check, Bench}

-- the sizes
abbrev pub IsSize : ℕ → Type 0
IsSize n = (1 ≤ n) × (n ≤ 100)

above : (b : Bool) (v n : ℕ) → (b ≡ true → v ≤ 100) → option_and_then above_zero (if b then Some v else None) ≡ Some n → IsSize n
above true zero n few is = absurd cc
above true (suc v) n few is = let same : suc v ≡ n = cc in (omega (arith, same), omega (arith, same, few refl))
above false v n few is = absurd cc

is-size : (size : List ℕ) (n : ℕ) → number_within 100 size ≡ Some n → IsSize n
is-size size n is =
    above (is_decimal size && nat_le (value_after 0 size) 100) (value_after 0 size) n
    (λ both. leb-true _ _ (and_parts (is_decimal size) (nat_le (value_after 0 size) 100) both).1) is

sized : (a : Bool) (o : Option ℕ) (n : ℕ) → (if a then option_map Bench o else None) ≡ Some (Bench n) → o ≡ Some n
sized true None n is = absurd cc
sized true (Some m) n is = let same : Bench m ≡ Bench n = cc in cc
sized false o n is = absurd cc

not_alone : (a b c : Bool) (n : ℕ) → (if a then Some Bare else if b then Some Replay else if c then Some Check else None) ≡ Some (Bench n) → ⊥
not_alone true b c n is = cc
not_alone false true c n is = cc
not_alone false false true n is = cc
not_alone false false false n is = cc

not_with_port : (a : Bool) (port turns : Option ℕ) (n : ℕ) → (if a then option_and_then (λ p. option_map (Serve p) turns) port else None) ≡ Some (Bench n) → ⊥
not_with_port true None turns n is = cc
not_with_port true (Some p) None n is = cc
not_with_port true (Some p) (Some t) n is = cc
not_with_port false port turns n is = cc

pub bench_sized : (words : List (List ℕ)) (n : ℕ) → asks words ≡ Some (Bench n) → IsSize n
bench_sized [] n is = absurd cc
bench_sized (word ∷ []) n is = absurd (not_alone (bytes_eq word (codes "bare")) (bytes_eq word (codes "replay")) (bytes_eq word (codes "check")) n is)
bench_sized (word ∷ size ∷ []) n is = is-size size n (sized (bytes_eq word (codes "bench")) (number_within 100 size) n is)
bench_sized (word ∷ port ∷ turns ∷ []) n is = absurd (not_with_port (bytes_eq word (codes "serve")) (number_within 65535 port) (number_within 4294967295 turns) n is)
bench_sized (word ∷ port ∷ turns ∷ more ∷ rest) n is = absurd cc
