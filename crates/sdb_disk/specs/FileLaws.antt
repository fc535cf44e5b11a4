-- The laws of a disk that tells nothing, which hold of nothing.
use Rattle.std.specs.Prelude.{ℕ, IsTrue}
use Rattle.sdb_disk.specs.Disk.{Files, Image}
use Rattle.sdb_disk.specs.FileState.{untold}

-- a disk that tells nothing says nothing of what may stay
pub untold-may_stay : (faults syncs k : ℕ) → IsTrue (untold faults syncs).told → (untold faults syncs).may_leave k ((untold faults syncs).seen k)
untold-may_stay faults syncs k told = cc

-- nor of the images of now
pub untold-counts_now : (faults syncs t : ℕ) (c : Files) → Image (untold faults syncs) c → (untold faults syncs).left_since t c
untold-counts_now faults syncs t c image = image 0
