-- Calls that only look at the disk, and what their refusals say.
use Rattle.std.specs.Prelude.{◌≡◌, ◌≤◌, ℕ, IfErr, Result}
use Rattle.sdb_base.specs.Causes.{Rose}
use Rattle.sdb_disk.specs.Disk.{State, Image, SameFiles, LeavesOnly, Elapses}
use Rattle.sdb_disk.specs.declared.fault.OpenFault.{OpenFault}
use Rattle.sdb_disk.specs.declared.fault.OpenFault.TheVariants.{Disk, NotAStore, OutOfMemory}

-- the files are as before, and so is what a crash may leave meanwhile
pub record Looks (old new : State) : Type 0 where
  pub same : SameFiles old new
  pub time : Elapses old new
  pub images : LeavesOnly old new (Image old)
  pub faults : old.faults ≤ new.faults
  pub syncs : new.syncs ≡ old.syncs

-- where the answer says that a file belongs to no store, this is known of its number
abbrev pub OnRefusal : {T : Type 0} → Result T OpenFault → (ℕ → Type 0) → Type 0
OnRefusal result P = IfErr result (λ fault. (k : ℕ) → fault ≡ NotAStore k → P k)

-- there was memory
abbrev pub OnNoMemory : {T : Type 0} → Result T OpenFault → Type 0 → Type 0
OnNoMemory result P = IfErr result (λ fault. fault ≡ OutOfMemory → P)

-- the count of the disk's faults never falls, and the disk is blamed only where it rose
pub record HasOpenCause {T : Type 0} (before now : ℕ) (result : Result T OpenFault) : Type 0 where
  pub later : before ≤ now
  pub failed : IfErr result (λ fault. fault ≡ Disk → Rose before now)
