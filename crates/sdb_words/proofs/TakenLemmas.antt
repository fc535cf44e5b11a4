-- clap takes the words of each command.
use Rattle.std.proofs.Common.{ap, sym, subst, refl, codes, ◌≡◌, ◌∙◌, ◌+◌, ◌-◌, ◌<◌, ◌≤◌, ℕ, zero, suc, Bool, true, false, ◌&&◌, List, [], ◌∷◌, Option, Some, None, is_some, arith, inl, inr, length, if◌then◌else◌, option_map, option_and_then, nat_le, nat_lt, ◌==◌, ◌||◌, not, slice_index}
use Rattle.std.proofs.lemmas.Bool.{and_parts, leb-true, cases_lt, true≢false}
use Rattle.std.proofs.lemmas.Slice.Eq.{bytes_eq-Decides}
use Rattle.std.specs.Prelude.{⊤}
use Rattle.std.specs.Str.{bytes_eq}
use Rattle.std.specs.Char.{is_ascii_digit}
use Rattle.std.specs.List.{list_all}
use Rattle.clap.specs.Words.{takes}
use Rattle.clap.proofs.OnLiterals.{clap_on_literals}
use Rattle.sdb_base.specs.Decimal.{is_decimal, value_after}
use Rattle.sdb_words.specs.Lists.{above_zero, number_within, alone, with_size, with_port}
use Rattle.sdb_words.specs.declared.command.Command.{Command}
use Rattle.sdb_words.specs.declared.command.Command.TheVariants.{Bare, Replay, Serve, Check, Bench}
use Rattle.sdb_words.specs.Program.{program}

takes_bare : takes program (codes "sdb" ∷ codes "bare" ∷ []) ≡ true
unfolding clap_on_literals
takes_bare = refl

takes_replay : takes program (codes "sdb" ∷ codes "replay" ∷ []) ≡ true
unfolding clap_on_literals
takes_replay = refl

takes_check : takes program (codes "sdb" ∷ codes "check" ∷ []) ≡ true
unfolding clap_on_literals
takes_check = refl

-- what holds of each number below n
abbrev AllBelow : (ℕ → Type 0) → ℕ → Type 0
AllBelow P zero = ⊤
AllBelow P (suc n) = AllBelow P n × P n

below : (P : ℕ → Type 0) (n : ℕ) → AllBelow P n → (k : ℕ) → k < n → P k
below P zero all k h = absurd (omega arith)
below P (suc n) all k h = elim (cases_lt k n) [
  | inl less ↦ below P n all.0 k less
  | inr not_less ↦ let same : n ≡ k = omega arith in subst P same all.1
]

-- the words of a bench, by the digit with which the size begins
abbrev TakesBench : (rest : List ℕ) → ℕ → Type 0
TakesBench rest k = takes program (codes "sdb" ∷ codes "bench" ∷ ((k + 48) ∷ rest) ∷ []) ≡ true

takes_bench : (rest : List ℕ) → AllBelow (TakesBench rest) 10
unfolding clap_on_literals
takes_bench rest = ((((((((((tt, refl), refl), refl), refl), refl), refl), refl), refl), refl), refl)

-- the words of a server, by the digits with which port and turns begin
abbrev TakesServe : (rest more : List ℕ) (j : ℕ) → ℕ → Type 0
TakesServe rest more j k = takes program (codes "sdb" ∷ codes "serve" ∷ ((j + 48) ∷ rest) ∷ ((k + 48) ∷ more) ∷ []) ≡ true

abbrev TakesServes : (rest more : List ℕ) → ℕ → Type 0
TakesServes rest more j = AllBelow (TakesServe rest more j) 10

takes_serve : (rest more : List ℕ) → AllBelow (TakesServes rest more) 10
unfolding clap_on_literals
takes_serve rest more = ((((((((((tt, ((((((((((tt, refl), refl), refl), refl), refl), refl), refl), refl), refl), refl)), ((((((((((tt, refl), refl), refl), refl), refl), refl), refl), refl), refl), refl)), ((((((((((tt, refl), refl), refl), refl), refl), refl), refl), refl), refl), refl)), ((((((((((tt, refl), refl), refl), refl), refl), refl), refl), refl), refl), refl)), ((((((((((tt, refl), refl), refl), refl), refl), refl), refl), refl), refl), refl)), ((((((((((tt, refl), refl), refl), refl), refl), refl), refl), refl), refl), refl)), ((((((((((tt, refl), refl), refl), refl), refl), refl), refl), refl), refl), refl)), ((((((((((tt, refl), refl), refl), refl), refl), refl), refl), refl), refl), refl)), ((((((((((tt, refl), refl), refl), refl), refl), refl), refl), refl), refl), refl)), ((((((((((tt, refl), refl), refl), refl), refl), refl), refl), refl), refl), refl))

-- a text that begins with a digit
record BeginsWithDigit (word : List ℕ) : Type 0 where
  digit : ℕ
  rest : List ℕ
  small : digit < 10
  is : (digit + 48) ∷ rest ≡ word

digits : (c : ℕ) (cs : List ℕ) → is_ascii_digit c ≡ true → BeginsWithDigit (c ∷ cs)
digits c cs e =
    let parts = and_parts (nat_le 48 c) (nat_le c 57) e in
    let low : 48 ≤ c = leb-true _ _ parts.0 in
    let high : c ≤ 57 = leb-true _ _ parts.1 in
    record { digit = c - 48; rest = cs; small = omega arith; is = ap (λ x. x ∷ cs) (omega arith) }

third : (a b c : Bool) → (a && b && c) ≡ true → c ≡ true
third true true c e = e
third true false c e = absurd (true≢false (sym e))
third false b c e = absurd (true≢false (sym e))

begins : (word : List ℕ) → is_decimal word ≡ true → BeginsWithDigit word
begins [] e = absurd (true≢false (sym e))
begins (c ∷ cs) e =
    let all = third (nat_lt 0 (length (c ∷ cs))) (length (c ∷ cs) == 1 || not (slice_index (c ∷ cs) 0 == 48)) (list_all is_ascii_digit (c ∷ cs)) e in
    digits c cs (and_parts (is_ascii_digit c) (list_all is_ascii_digit cs) all).0

-- a number is told by a decimal text alone
needs_decimal : (d m : Bool) (v : ℕ) → is_some (option_and_then above_zero (if d && m then Some v else None)) ≡ true → d ≡ true
needs_decimal true m v e = refl
needs_decimal false m v e = e

number_begins : (most : ℕ) (word : List ℕ) → is_some (number_within most word) ≡ true → BeginsWithDigit word
number_begins most word e = begins word (needs_decimal (is_decimal word) (nat_le (value_after 0 word) most) (value_after 0 word) e)

module _ {A B : Type 0} where
  mapped : (f : A → B) (o : Option A) → is_some (option_map f o) ≡ true → is_some o ≡ true
  mapped f None e = e
  mapped f (Some x) e = refl

  chained : (f : A → Option B) (o : Option A) → is_some (option_and_then f o) ≡ true → is_some o ≡ true
  chained f None e = e
  chained f (Some x) e = refl

  chained_last : (f : A → Option B) (o : Option A) {P : Type 0} → ((x : A) → is_some (f x) ≡ true → P) → is_some (option_and_then f o) ≡ true → P
  chained_last f None then_so e = absurd (true≢false (sym e))
  chained_last f (Some x) then_so e = then_so x e

by_word : (word : List ℕ) (a b c : Bool) → (a ≡ true → word ≡ codes "bare") → (b ≡ true → word ≡ codes "replay") → (c ≡ true → word ≡ codes "check")
    → is_some (if a then Some Bare else if b then Some Replay else if c then Some Check else None) ≡ true → takes program (codes "sdb" ∷ word ∷ []) ≡ true
by_word word true b c as_a as_b as_c e = subst (λ w. takes program (codes "sdb" ∷ w ∷ []) ≡ true) (sym (as_a refl)) takes_bare
by_word word false true c as_a as_b as_c e = subst (λ w. takes program (codes "sdb" ∷ w ∷ []) ≡ true) (sym (as_b refl)) takes_replay
by_word word false false true as_a as_b as_c e = subst (λ w. takes program (codes "sdb" ∷ w ∷ []) ≡ true) (sym (as_c refl)) takes_check
by_word word false false false as_a as_b as_c e = absurd (true≢false (sym e))

pub taken_alone : (word : List ℕ) (named : Option Command) → named ≡ alone word → is_some named ≡ true → takes program (codes "sdb" ∷ word ∷ []) ≡ true
taken_alone word named is some = by_word word (bytes_eq word (codes "bare")) (bytes_eq word (codes "replay")) (bytes_eq word (codes "check"))
    (bytes_eq-Decides word _).0 (bytes_eq-Decides word _).0 (bytes_eq-Decides word _).0 (ap is_some (sym is) ∙ some)

by_size : (word size : List ℕ) (a : Bool) → (a ≡ true → word ≡ codes "bench") → is_some (if a then option_map Bench (number_within 100 size) else None) ≡ true
    → takes program (codes "sdb" ∷ word ∷ size ∷ []) ≡ true
by_size word size false is e = absurd (true≢false (sym e))
by_size word size true is e =
    let begun = number_begins 100 size (mapped Bench (number_within 100 size) e) in
    let known = below (TakesBench begun.rest) 10 (takes_bench begun.rest) begun.digit begun.small in
    let named = subst (λ n. takes program (codes "sdb" ∷ codes "bench" ∷ n ∷ []) ≡ true) begun.is known in
    subst (λ w. takes program (codes "sdb" ∷ w ∷ size ∷ []) ≡ true) (sym (is refl)) named

pub taken_with_size : (word size : List ℕ) (named : Option Command) → named ≡ with_size word size → is_some named ≡ true → takes program (codes "sdb" ∷ word ∷ size ∷ []) ≡ true
taken_with_size word size named is some = by_size word size (bytes_eq word (codes "bench")) (bytes_eq-Decides word _).0 (ap is_some (sym is) ∙ some)

abbrev serving : (turns : List ℕ) → ℕ → Option Command
serving turns p = option_map (Serve p) (number_within 4294967295 turns)

by_port : (word port turns : List ℕ) (a : Bool) → (a ≡ true → word ≡ codes "serve")
    → is_some (if a then option_and_then (serving turns) (number_within 65535 port) else None) ≡ true → takes program (codes "sdb" ∷ word ∷ port ∷ turns ∷ []) ≡ true
by_port word port turns false is e = absurd (true≢false (sym e))
by_port word port turns true is e =
    let first = number_begins 65535 port (chained (serving turns) (number_within 65535 port) e) in
    let some_turns = chained_last (serving turns) (number_within 65535 port) (λ p h. mapped (Serve p) (number_within 4294967295 turns) h) e in
    let second = number_begins 4294967295 turns some_turns in
    let row = below (TakesServes first.rest second.rest) 10 (takes_serve first.rest second.rest) first.digit first.small in
    let known = below (TakesServe first.rest second.rest first.digit) 10 row second.digit second.small in
    let with_first = subst (λ p. takes program (codes "sdb" ∷ codes "serve" ∷ p ∷ ((second.digit + 48) ∷ second.rest) ∷ []) ≡ true) first.is known in
    let with_second = subst (λ t. takes program (codes "sdb" ∷ codes "serve" ∷ port ∷ t ∷ []) ≡ true) second.is with_first in
    subst (λ w. takes program (codes "sdb" ∷ w ∷ port ∷ turns ∷ []) ≡ true) (sym (is refl)) with_second

pub taken_with_port : (word port turns : List ℕ) (named : Option Command) → named ≡ with_port word port turns → is_some named ≡ true
    → takes program (codes "sdb" ∷ word ∷ port ∷ turns ∷ []) ≡ true
taken_with_port word port turns named is some = by_port word port turns (bytes_eq word (codes "serve")) (bytes_eq-Decides word _).0 (ap is_some (sym is) ∙ some)
