-- Names with values, where no name stands twice.
use Rattle.std.specs.Prelude.{ℕ, List, Option}
use Rattle.std.specs.Str.{bytes_eq}
use Rattle.std.specs.List.{IsDistinct}
use Rattle.std.specs.Map.{lookup, keys_of}

-- names with values, in an order
abbrev pub NamedValues : Type 0
NamedValues = List (List ℕ × List ℕ)

-- no name stands twice
abbrev pub HasDistinctNames : NamedValues → Type 0
HasDistinctNames pairs = IsDistinct bytes_eq (keys_of pairs)

-- the value beside the first pair of that name
abbrev pub value_of : NamedValues → List ℕ → Option (List ℕ)
value_of pairs name = lookup (bytes_eq name) pairs
