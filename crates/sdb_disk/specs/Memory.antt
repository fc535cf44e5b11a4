-- What contracts see of a disk in memory.
use Rattle.std.specs.Prelude.{ℕ, Bool, false, List, Option, Some, None, reverse, ◌==◌, ◌||◌, nat_le}
use Rattle.std.specs.List.{list_any}
use Rattle.sdb_disk.specs.declared.memory.MemoryDisk.{MemoryDisk}
use Rattle.sdb_disk.specs.Disk.{State}
use Rattle.sdb_disk.specs.Past.{contents, counted, state_of}

-- the state of the disk in memory
abbrev pub memory_state : MemoryDisk → State
memory_state disk = state_of (contents disk.files) (reverse disk.calls.items) disk.faults

-- which of its calls fail
pub record Plan : Type 0 where
  -- the numbers of calls that fail
  pub fails : List ℕ
  -- the first number from which every call fails
  pub stop : Option ℕ
  -- the number of the next call
  pub number : ℕ

-- which calls of the disk fail
abbrev pub plan_of : MemoryDisk → Plan
plan_of disk = record { fails = disk.fails; stop = disk.stop; number = disk.number }

-- from that number on every call fails
abbrev pub stopped : Option ℕ → ℕ → Bool
stopped None number = false
stopped (Some stop) number = nat_le stop number

-- the next call fails by plan
abbrev pub refuses : Plan → Bool
refuses plan = list_any (λ n. n == plan.number) plan.fails || stopped plan.stop plan.number

-- the plan after one more call
abbrev pub next_call : Plan → Plan
next_call plan = record plan { number = counted plan.number }
