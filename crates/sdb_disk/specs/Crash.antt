-- What a crash leaves of a disk in memory where unsynced ranges are filled with one byte.
use Rattle.std.specs.Prelude.{◌+◌, ◌-◌, ℕ, Bool, false, min, List, [], ◌∷◌, ◌++◌, length, take, drop, ◌==◌, if◌then◌else◌, Option, Some, None, zero, suc, reverse, replicate}
use Rattle.sdb_base.specs.Buffer.{Buffer}
use Rattle.sdb_disk.specs.declared.memory.Call.{Call}
use Rattle.sdb_disk.specs.declared.memory.Call.TheVariants.{Write, Cut, Sync}
use Rattle.sdb_disk.specs.declared.memory.MemoryDisk.{MemoryDisk}
use Rattle.sdb_disk.specs.Disk.{Files}
use Rattle.sdb_disk.specs.Past.{Unsynced}

-- the part of the content from a place on, n bytes long or to its end, holds the byte
abbrev pub range_filled : List ℕ → ℕ → ℕ → ℕ → List ℕ
range_filled content at n byte = take at content ++ replicate (min n (length content - at)) byte ++ drop (at + n) content

-- the call is a sync of that file
abbrev pub is_sync_of : Call → ℕ → Bool
is_sync_of (Write f at n was) file = false
is_sync_of (Cut f len was) file = false
is_sync_of (Sync f) file = file == f

-- the content with what the call wrote filled
abbrev pub lost_in : Call → ℕ → ℕ → List ℕ → List ℕ
lost_in (Write f at n was) file byte content = if file == f then range_filled content at n byte else content
lost_in (Cut f len was) file byte content = content
lost_in (Sync f) file byte content = content

-- the content of a file with each range that was written since its last sync filled; the newest call first
abbrev pub lost : ℕ → ℕ → List Call → List ℕ → List ℕ
lost byte file [] content = content
lost byte file (call ∷ earlier) content = if is_sync_of call file then content else lost byte file earlier (lost_in call file byte content)

-- nothing is lost where there is no byte to fill with
abbrev pub crashed : Option ℕ → ℕ → List Call → List ℕ → List ℕ
crashed None file calls content = content
crashed (Some byte) file calls content = lost byte file calls content

-- the byte at this place of a file was written since the file's last sync
abbrev pub IsUnsynced : MemoryDisk → ℕ → ℕ → Type 0
IsUnsynced disk k j = Unsynced (reverse disk.calls.items) k j

-- the bytes of each buffer by its number
abbrev pub bytes_at : List Buffer → Files
bytes_at [] k = []
bytes_at (b ∷ bs) zero = b.bytes
bytes_at (b ∷ bs) (suc k) = bytes_at bs k
