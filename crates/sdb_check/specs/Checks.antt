-- What a check writes, and what it answers.
use Rattle.std.specs.Prelude.{◌≤◌, ⊤, ℕ, IsTrue, List, length, take}
use Rattle.std.specs.declared.option.Option.{Option}
use Rattle.std.specs.Io.KnownBytes.{Appends}
use Rattle.sdb_disk.specs.Disk.{State}
use Rattle.sdb_pairs.specs.Accounts.{DomainEntries}
use Rattle.sdb_record.specs.Stands.{StandsFor}
use Rattle.sdb_listing.specs.Listing.{listing_of}
use Rattle.sdb_status.specs.declared.status.Status.{Status}
use Rattle.sdb_status.specs.declared.status.Status.TheVariants.{Done, Usage, ReadFault, OutOfMemory, WriteFault, DiskFault, BadKeys, BadScript, NotAStore, LinkFault, InputTooLong}

-- a front of the text is written
abbrev pub AppendsFront : Option (List ℕ) → Option (List ℕ) → List ℕ → Type 0
AppendsFront before now text = (n : ℕ) × (n ≤ length text) × Appends before now (take n text)

-- accounts and a number for which the files stand, as far as the disk tells them, and the fact of their text
abbrev pub Found : State → (List ℕ → Type 0) → Type 0
Found old Write = (accounts : DomainEntries) × (number : ℕ) × (IsTrue old.told → StandsFor accounts number old.seen) × Write (listing_of number accounts)

-- the text of what the files stand for is written
abbrev pub Lists : State → Option (List ℕ) → Option (List ℕ) → Type 0
Lists old before now = Found old (Appends before now)

-- a front of it is written
abbrev pub ListsFront : State → Option (List ℕ) → Option (List ℕ) → Type 0
ListsFront old before now = Found old (AppendsFront before now)

-- a refusal of the store
abbrev pub IsRefusal : Status → Type 0
IsRefusal OutOfMemory = ⊤
IsRefusal DiskFault = ⊤
IsRefusal (NotAStore file) = ⊤
IsRefusal Done = ⊥
IsRefusal Usage = ⊥
IsRefusal ReadFault = ⊥
IsRefusal WriteFault = ⊥
IsRefusal (BadKeys line) = ⊥
IsRefusal (BadScript at) = ⊥
IsRefusal LinkFault = ⊥
IsRefusal InputTooLong = ⊥

-- what a check may answer
abbrev pub IsAnswer : Status → Type 0
IsAnswer Done = ⊤
IsAnswer WriteFault = ⊤
IsAnswer OutOfMemory = ⊤
IsAnswer DiskFault = ⊤
IsAnswer (NotAStore file) = ⊤
IsAnswer Usage = ⊥
IsAnswer ReadFault = ⊥
IsAnswer (BadKeys line) = ⊥
IsAnswer (BadScript at) = ⊥
IsAnswer LinkFault = ⊥
IsAnswer InputTooLong = ⊥
