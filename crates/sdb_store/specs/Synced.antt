-- Files synced one after the other.
use Rattle.std.specs.Prelude.{◌≡◌, ◌<◌, ◌≤◌, ◌+◌, ℕ, List}
use Rattle.sdb_disk.specs.Disk.{State, Image, SettledFile, LeavesOnly, Elapses}

-- the files below that number are settled; a read gives what it gave before, and a crash leaves no more
pub record Synced (below : ℕ) (old now : State) : Type 0 where
  pub told : now.told ≡ old.told
  pub settled : (k : ℕ) → k < below → SettledFile now k
  pub seen : (k : ℕ) → now.seen k ≡ old.seen k
  pub no_more : (k : ℕ) (c : List ℕ) → now.may_leave k c → old.may_leave k c
  pub time : Elapses old now
  pub images : LeavesOnly old now (Image old)
  pub faults : old.faults ≤ now.faults
  pub syncs : now.syncs ≤ old.syncs + below
