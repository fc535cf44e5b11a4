-- Readers of bytes: functions on lists that give a value and the bytes after it, or a fault.
use Rattle.std.specs.Prelude.{◌≡◌, ℕ, zero, suc, List, [], ◌∷◌, length, All, Result, Ok, Err}
use Rattle.sdb_format.specs.declared.fault.FormatFault.{FormatFault}

-- a value and what follows it, or a fault
abbrev pub Reading : Type 0 → Type 0
Reading A = Result (A × List ℕ) FormatFault

-- what the bytes at the front of a list read as
abbrev pub Reader : Type 0 → Type 0
Reader A = List ℕ → Reading A

-- the reading with another value
abbrev pub mapped : {A B : Type 0} → (A → B) → Reading A → Reading B
mapped f (Ok x) = Ok (f x.0, x.1)
mapped f (Err fault) = Err fault

-- the reading after which one goes on
abbrev pub go_on : {A B : Type 0} → (A → Reader B) → Reading A → Reading (A × B)
go_on next (Ok x) = mapped (λ y. (x.0, y)) (next x.0 x.1)
go_on next (Err fault) = Err fault

-- one value, and then another, whose reader depends on the first
abbrev pub then_at : {A B : Type 0} → Reader A → (A → Reader B) → Reader (A × B)
then_at first next bytes = go_on next (first bytes)

-- what a value stands for
abbrev pub seen_at : {A B : Type 0} → (A → B) → Reader A → Reader B
seen_at f read bytes = mapped f (read bytes)

-- the second of two values
abbrev pub second : {A B : Type 0} → A × B → B
second x = x.1

-- a value put in front of those that follow
abbrev pub in_front : {A : Type 0} → A × List A → List A
in_front x = x.0 ∷ x.1

-- so many values, one after the other
abbrev pub times_at : {A : Type 0} → ℕ → Reader A → Reader (List A)
times_at zero read bytes = Ok ([], bytes)
times_at (suc n) read bytes = mapped in_front (go_on (λ x. times_at n read) (read bytes))

-- so many values, each of which fits
pub record AreTimes {A : Type 0} (Fits : A → Type 0) (n : ℕ) (xs : List A) : Type 0 where
  pub size : length xs ≡ n
  pub each : All Fits xs
