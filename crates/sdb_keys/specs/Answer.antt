-- What reading a keys file answers.
use Rattle.std.specs.Prelude.{⊤, ℕ, List, Result, Ok, Err}
use Rattle.sdb_keys.specs.declared.fault.KeyFault.{KeyFault}
use Rattle.sdb_keys.specs.declared.fault.KeyFault.TheVariants as variant
use Rattle.sdb_keys.specs.declared.keys.Key.{Key}
use Rattle.sdb_keys.specs.File.{AreRight, IsBadLine, IsDoubled, IsOneTooMany}

-- this answer fits the lines; want of memory fits all
abbrev pub IsAnswer : List (List ℕ) → Result (List Key) KeyFault → Type 0
IsAnswer lines (Ok keys) = AreRight lines keys
IsAnswer lines (Err (variant.BadLine number)) = IsBadLine lines number
IsAnswer lines (Err (variant.Doubled number)) = IsDoubled lines number
IsAnswer lines (Err (variant.TooMany number)) = IsOneTooMany lines number
IsAnswer lines (Err variant.OutOfMemory) = ⊤
