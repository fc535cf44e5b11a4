-- Items as they are lent.
use Rattle.std.specs.Prelude.{ℕ, List}
use Rattle.sdb_pairs.specs.declared.pair.Pair.{Pair}
use Rattle.sdb_domain.specs.declared.row.Row.{Row}

-- an item that is lent
abbrev pub seen_row : Row → List ℕ × List Pair
seen_row row = (row.name.now, row.item.now)
