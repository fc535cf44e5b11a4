-- The values of an item.
use Rattle.std.specs.Prelude.{List, map}
use Rattle.sdb_pairs.specs.declared.pair.Pair.{Pair}
use Rattle.sdb_pairs.specs.Pairs.{part_named}
use Rattle.sdb_parse.specs.Meaning.{Values}

-- the values of each attribute in the pairs of an item
abbrev pub values_in : List Pair → Values
values_in pairs attr = map (λ p. p.value) (part_named attr pairs)
