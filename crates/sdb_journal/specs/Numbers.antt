-- Numbers in bytes, the most significant byte first.
use Rattle.std.specs.Prelude.{ℕ, ◌+◌, ◌*◌, List, slice_index}

-- the number in four bytes at a place
abbrev pub word_in : List ℕ → ℕ → ℕ
word_in l at = slice_index l at * 16777216 + slice_index l (at + 1) * 65536 + slice_index l (at + 2) * 256 + slice_index l (at + 3)

-- the number in eight
abbrev pub number_in : List ℕ → ℕ → ℕ
number_in l at = word_in l at * 4294967296 + word_in l (at + 4)
