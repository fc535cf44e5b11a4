-- A disk in memory keeps a record of its calls, the newest first, with the bytes that each replaced. The past is
-- read backwards from what the files hold now.
use Rattle.std.specs.Prelude.{◌≡◌, ◌≢◌, ◌⊎◌, ◌<◌, ◌≤◌, ◌+◌, ◌-◌, ◌^◌, ℕ, zero, suc, true, min, max, List, [], ◌∷◌, ◌++◌, length, take, drop, slice_index, ◌==◌, if◌then◌else◌, MatchBool, Vec}
use Rattle.std.specs.declared.alloc.Global.{Global}
use Rattle.sdb_disk.specs.declared.memory.Call.{Call}
use Rattle.sdb_disk.specs.declared.memory.Call.TheVariants.{Write, Cut, Sync}
use Rattle.sdb_disk.specs.Disk.{Files, State, Torn, CutTo, overlaid}

-- one more, up to what 64 bits hold
abbrev pub counted : ℕ → ℕ
counted n = min (n + 1) (2 ^ 64 - 1)

-- what each file holds
abbrev pub contents : List (Vec ℕ Global) → Files
contents [] k = []
contents (v ∷ vs) zero = v.items
contents (v ∷ vs) (suc k) = contents vs k

-- the file of a call
abbrev pub file_of : Call → ℕ
file_of (Write file at count was) = file
file_of (Cut file len was) = file
file_of (Sync file) = file

-- the file as it was before the call
abbrev pub undone : Call → List ℕ → List ℕ
undone (Write file at count was) now = take at now ++ was.items ++ drop (at + count) now
undone (Cut file len was) now = now ++ was.items
undone (Sync file) now = now

-- the files before a call
abbrev pub before : Call → Files → Files
before call files k = if k == file_of call then undone call (files k) else files k

-- a write replaced these bytes
pub record Overwrites (file at : ℕ) (bytes : List ℕ) (was : Vec ℕ Global) (old new : Files) : Type 0 where
  pub now : new file ≡ overlaid (old file) at bytes
  pub kept : was.items ≡ take (length bytes) (drop at (old file))
  pub others : (k : ℕ) → k ≢ file → new k ≡ old k

-- a cut took these bytes off
pub record CutsOff (file len : ℕ) (was : Vec ℕ Global) (old new : Files) : Type 0 where
  pub now : new file ≡ take len (old file)
  pub kept : was.items ≡ drop len (old file)
  pub others : (k : ℕ) → k ≢ file → new k ≡ old k

-- the byte at this place of a file isn't on the disk for certain
abbrev pub Unsynced : List Call → ℕ → ℕ → Type 0
Unsynced [] k j = ⊥
Unsynced (Write file at count was ∷ earlier) k j = ((k ≡ file) × (at ≤ j) × (j < at + count)) ⊎ Unsynced earlier k j
Unsynced (Cut file len was ∷ earlier) k j = Unsynced earlier k j
Unsynced (Sync file ∷ earlier) k j = (k ≢ file) × Unsynced earlier k j

-- these bytes are the file's but where it isn't synced
pub record Alike (calls : List Call) (k : ℕ) (now c : List ℕ) : Type 0 where
  pub size : length c ≡ length now
  pub same : (j : ℕ) → j < length now → (Unsynced calls k j → ⊥) → slice_index c j ≡ slice_index now j

-- what a crash may leave of a file after a call, where it might have left `old` before
abbrev pub LeavesAfter : Call → List Call → ℕ → List ℕ → (List ℕ → Type 0) → List ℕ → Type 0
LeavesAfter (Write file at count was) calls k now old c = Alike calls k now c ⊎ ((d : List ℕ) × old d × Torn at count d c)
LeavesAfter (Cut file len was) calls k now old c = Alike calls k now c ⊎ ((d : List ℕ) × old d × CutTo len d c)
LeavesAfter (Sync file) calls k now old c = c ≡ now

-- what a crash may leave of a file after calls
abbrev pub Leaves : Files → List Call → ℕ → List ℕ → Type 0
Leaves files [] k c = c ≡ files k
Leaves files (call ∷ earlier) k c = MatchBool (k == file_of call)
    (LeavesAfter call (call ∷ earlier) k (files k) (Leaves (before call files) earlier k) c)
    (Leaves (before call files) earlier k c)

-- what a crash since a moment might have left; the moment is the number of calls
abbrev pub LeftSince : Files → List Call → ℕ → Files → Type 0
LeftSince files [] t c = ((k : ℕ) → Leaves files [] k (c k)) × (t ≤ 0)
LeftSince files (call ∷ earlier) t c = (((k : ℕ) → Leaves files (call ∷ earlier) k (c k)) × (t ≤ suc (length earlier)))
    ⊎ LeftSince (before call files) earlier t c

-- the least length of a file since its last sync, after a call on it
abbrev pub least_after : Call → ℕ → ℕ → ℕ
least_after (Write file at count was) now old = min now old
least_after (Cut file len was) now old = min now (min old len)
least_after (Sync file) now old = now

-- the least length of a file since its last sync
abbrev pub least : Files → List Call → ℕ → ℕ
least files [] k = length (files k)
least files (call ∷ earlier) k =
    if k == file_of call then least_after call (length (files k)) (least (before call files) earlier k) else least (before call files) earlier k

-- the greatest length of a file since its last sync, after a call on it
abbrev pub greatest_after : Call → ℕ → ℕ → ℕ
greatest_after (Write file at count was) now old = max now (max old (at + count))
greatest_after (Cut file len was) now old = max now old
greatest_after (Sync file) now old = now

-- the greatest length of a file since its last sync
abbrev pub greatest : Files → List Call → ℕ → ℕ
greatest files [] k = length (files k)
greatest files (call ∷ earlier) k =
    if k == file_of call then greatest_after call (length (files k)) (greatest (before call files) earlier k) else greatest (before call files) earlier k

-- how many syncs succeeded
abbrev pub syncs_of : List Call → ℕ
syncs_of [] = 0
syncs_of (Write file at count was ∷ earlier) = syncs_of earlier
syncs_of (Cut file len was ∷ earlier) = syncs_of earlier
syncs_of (Sync file ∷ earlier) = syncs_of earlier + 1

-- the disk that holds these files after these calls
abbrev pub state_of : Files → List Call → ℕ → State
state_of files calls faults = record {
  told = true;
  seen = files;
  may_leave = Leaves files calls;
  moment = length calls;
  left_since = LeftSince files calls;
  faults = faults;
  syncs = syncs_of calls;
  least = least files calls;
  greatest = greatest files calls;
}
