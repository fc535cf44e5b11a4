-- Which keys a source gives, and what the status of a run says where it gives none.
use Rattle.std.specs.Prelude.{◌≡◌, ◌⊎◌, ◌<◌, ◌≤◌, ℕ, List, length}
use Rattle.std.specs.declared.option.Option.{Option}
use Rattle.std.specs.Io.KnownBytes.{Consumes, IsAtEnd}
use Rattle.sdb_keys.specs.File.{AreRight, IsBadLine, IsDoubled, IsOneTooMany, file_lines}
use Rattle.sdb_keys.specs.declared.keys.Key.{Key}
use Rattle.sdb_status.specs.declared.status.Status.{Status}
use Rattle.sdb_status.specs.declared.status.Status.TheVariants.{Done, Usage, ReadFault, OutOfMemory, WriteFault, DiskFault, BadKeys, BadScript, NotAStore, LinkFault, InputTooLong}

-- a keys file has at most so many bytes
abbrev pub most_keys : ℕ
most_keys = 65536

-- the source gave all that it had, and that is no more than a keys file has
abbrev pub GivesFile : Option (List ℕ) → Option (List ℕ) → List ℕ → Type 0
GivesFile left rest text = Consumes left rest text × IsAtEnd rest × (length text ≤ most_keys)

-- the source gave a keys file of these keys
abbrev pub GivesKeys : Option (List ℕ) → Option (List ℕ) → List Key → Type 0
GivesKeys left rest keys = (text : List ℕ) × GivesFile left rest text × AreRight (file_lines text) keys

-- the first wrong line has this number
abbrev pub IsWrongLine : List (List ℕ) → ℕ → Type 0
IsWrongLine lines number = IsBadLine lines number ⊎ (IsDoubled lines number ⊎ IsOneTooMany lines number)

-- what a status says where there are no keys: the source failed, or gave too many bytes, or a file with a wrong line
abbrev pub GivesNone : Status → Option (List ℕ) → Option (List ℕ) → Type 0
GivesNone ReadFault left rest = (text : List ℕ) × Consumes left rest text × (length text ≤ most_keys)
GivesNone OutOfMemory left rest = (text : List ℕ) × Consumes left rest text
GivesNone (BadKeys number) left rest = (text : List ℕ) × GivesFile left rest text × IsWrongLine (file_lines text) number
GivesNone InputTooLong left rest = (text : List ℕ) × Consumes left rest text × (most_keys < length text)
GivesNone Done left rest = ⊥
GivesNone Usage left rest = ⊥
GivesNone WriteFault left rest = ⊥
GivesNone DiskFault left rest = ⊥
GivesNone (BadScript at) left rest = ⊥
GivesNone (NotAStore file) left rest = ⊥
GivesNone LinkFault left rest = ⊥

-- the source gave bytes into a buffer of this size: so many, fewer only where it is at its end
abbrev pub Fills : (size : ℕ) → Option (List ℕ) → Option (List ℕ) → (count : ℕ) → (front : List ℕ) → Type 0
Fills size left rest count front = (count ≤ size) × Consumes left rest front × (count < size → IsAtEnd rest)

-- what a status says of lines that are no keys file
abbrev pub IsRefusedAs : Status → List (List ℕ) → Type 0
IsRefusedAs OutOfMemory lines = Unit {0}
IsRefusedAs (BadKeys number) lines = IsWrongLine lines number
IsRefusedAs Done lines = ⊥
IsRefusedAs Usage lines = ⊥
IsRefusedAs ReadFault lines = ⊥
IsRefusedAs WriteFault lines = ⊥
IsRefusedAs DiskFault lines = ⊥
IsRefusedAs (BadScript at) lines = ⊥
IsRefusedAs (NotAStore file) lines = ⊥
IsRefusedAs LinkFault lines = ⊥
IsRefusedAs InputTooLong lines = ⊥
