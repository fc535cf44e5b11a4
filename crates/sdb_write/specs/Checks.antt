-- What a check answers.
use Rattle.std.specs.Prelude.{◌≡◌, ◌⊎◌, Option, Some, None, Result, Ok, Err}
use Rattle.sdb_tables.specs.declared.refusal.Refusal.{Refusal}
use Rattle.sdb_tables.specs.declared.refusal.Refusal.TheVariants.{OutOfMemory}

-- Ok where nothing refuses, else the refusal; only want of memory may take its place
abbrev pub Checks : {A : Type 0} → Option Refusal → Result A Refusal → Type 0
Checks given (Ok done) = given ≡ None
Checks given (Err refusal) = (refusal ≡ OutOfMemory) ⊎ (given ≡ Some refusal)
