-- What is known of real files: how often they failed and synced. Nothing of what they hold, and so nothing of
-- what a crash leaves of them.
use Rattle.std.specs.Prelude.{ℕ, ◌^◌, false, []}
use Rattle.sdb_disk.specs.Disk.{State}

-- the state of a disk that tells nothing but its counts
abbrev pub untold : ℕ → ℕ → State
untold faults syncs = record {
  told = false;
  seen = λ k. [];
  may_leave = λ k c. ⊥;
  moment = 0;
  left_since = λ t c. ⊥;
  faults = faults;
  syncs = syncs;
  least = λ k. 0;
  greatest = λ k. 2 ^ 62;
}
