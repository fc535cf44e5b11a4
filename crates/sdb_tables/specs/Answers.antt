-- What a call that may lack memory answers.
use Rattle.std.specs.Prelude.{◌≡◌, ◌⊎◌, Result, Ok, Err}
use Rattle.sdb_tables.specs.declared.refusal.Refusal.{Refusal}
use Rattle.sdb_tables.specs.declared.refusal.Refusal.TheVariants.{OutOfMemory}

-- the answer is what the definition gives, value or refusal; only want of memory may take its place
abbrev pub Answers : {A : Type 0} → Result A Refusal → Result A Refusal → Type 0
Answers given (Ok value) = given ≡ Ok value
Answers given (Err refusal) = (refusal ≡ OutOfMemory) ⊎ (given ≡ Err refusal)
