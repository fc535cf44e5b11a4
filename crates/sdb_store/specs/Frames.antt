-- The pending group, as it stands in the frame of its record: 12 bytes, its body, and one byte.
use Rattle.std.specs.Prelude.{ℕ, ◌-◌, ◌&&◌, Bool, true, false, nat_lt, nat_le, List, [], ◌∷◌, ◌++◌, length, take, drop, Ok, Err}
use Rattle.sdb_format.specs.Numbers.{be32}
use Rattle.sdb_format.specs.Readers.{Reading}
use Rattle.sdb_pairs.specs.declared.change.Change.{Change}
use Rattle.sdb_record.specs.Entries.{changes_at}
use Rattle.sdb_record.specs.Journals.{Group}

-- the bytes of the changes, which stand in the body behind the four of their number
abbrev pub entries_of : List ℕ → List ℕ
entries_of frame = take (length frame - 17) (drop 16 frame)

-- what the body reads as, where its changes are so many
unfoldable pub reading_of : ℕ → List ℕ → Reading (List Change)
reading_of count frame = changes_at (be32 count ++ entries_of frame)

-- the changes that were read
abbrev pub changes_read : Reading (List Change) → List Change
changes_read (Ok x) = x.0
changes_read (Err fault) = []

-- there are no bytes
abbrev pub is_none : List ℕ → Bool
is_none [] = true
is_none (byte ∷ bytes) = false

-- no bytes are left behind the changes
abbrev pub reads_all : Reading (List Change) → Bool
reads_all (Ok x) = is_none x.1
reads_all (Err fault) = false

-- the group in a frame of so many changes
abbrev pub group_in : ℕ → List ℕ → Group
group_in count frame = changes_read (reading_of count frame)

-- the frame holds exactly the bytes of a group of so many changes; neither they nor it are too many
abbrev pub is_frame : ℕ → List ℕ → Bool
is_frame count frame = nat_lt count 4294967296 && (nat_le 17 (length frame) && (nat_lt (length frame) 4294967309 && reads_all (reading_of count frame)))
