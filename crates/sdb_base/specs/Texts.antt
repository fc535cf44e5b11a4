-- Texts and their order.
use Rattle.std.specs.Prelude.{ℕ, List}
use Rattle.std.specs.declared.cmp.Ordering.{Ordering}
use Rattle.std.specs.Ordering.{nat_cmp}
use Rattle.std.specs.Cmp.Lexicographic.{slice_cmp}
use Rattle.std.specs.List.Sorted.{IsStrictlySortedBy}

-- a text is the list of its UTF-8 bytes
abbrev pub TextBytes : Type 0
TextBytes = List ℕ

-- texts are ordered by the first byte in which they differ, and a proper front comes first
abbrev pub text_cmp : TextBytes → TextBytes → Ordering
text_cmp = slice_cmp nat_cmp

-- each text is less than the next
abbrev pub AreRising : List TextBytes → Type 0
AreRising = IsStrictlySortedBy text_cmp
