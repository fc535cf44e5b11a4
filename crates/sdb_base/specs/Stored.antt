-- Where the bytes of a text stand.
use Rattle.std.specs.Prelude.{ℕ, List, string_bytes}
use Rattle.sdb_base.specs.declared.text.Stored.{Stored}
use Rattle.sdb_base.specs.declared.text.Stored.TheVariants.{Here, OnHeap}

-- the bytes, wherever they stand
abbrev pub bytes_of : Stored → List ℕ
bytes_of (Here short) = short.bytes
bytes_of (OnHeap long) = string_bytes long
