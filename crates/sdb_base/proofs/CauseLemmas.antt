-- How causes of faults compose over calls.
use Rattle.std.proofs.Common.{ℕ, ◌≤◌, Result, Ok, Err, arith}
use Rattle.sdb_base.specs.Causes.{Rose, HasCause}

-- a count that rose had risen already, where it didn't fall before
pub Rose-after : (a b c : ℕ) → a ≤ b → Rose b c → Rose a c
Rose-after a b c later rose = omega arith

-- and it has risen still, where it doesn't fall later
pub Rose-before : (a b c : ℕ) → Rose a b → b ≤ c → Rose a c
Rose-before a b c rose later = omega arith

-- the last of two calls decides the answer
pub HasCause-after : {T E : Type 0} (a b c : ℕ) (result : Result T E) → a ≤ b → HasCause b c result → HasCause a c result
HasCause-after a b c (Ok x) later cause = record { later = omega arith; failed = tt }
HasCause-after a b c (Err e) later cause = record { later = omega arith; failed = Rose-after a b c later cause.failed }

-- a call that hands on the answer of another, with a count that doesn't fall since
pub HasCause-before : {T E : Type 0} (a b c : ℕ) (result : Result T E) → HasCause a b result → b ≤ c → HasCause a c result
HasCause-before a b c (Ok x) cause later = record { later = omega arith; failed = tt }
HasCause-before a b c (Err e) cause later = record { later = omega arith; failed = Rose-before a b c cause.failed later }
