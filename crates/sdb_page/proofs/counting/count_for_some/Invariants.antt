use Rattle.std.proofs.Common.{◌≡◌, ◌≤◌, map, take}
use Rattle.std.specs.List.{list_any}
use Rattle.sdb_parse.specs.Meaning.{has_value, meaning}
use Rattle.sdb_page.specs.Seen.{count_in}
use Rattle.sdb_page.proofs.counting.count_for_some.Given as goal

abbrev pub invariant-loop-row : goal.invariant-loop-row
invariant-loop-row l = (l.count ≡ count_in (take l.row-index l.rows) (has_value l.attr (λ value. list_any (λ m. m.asks value) (map meaning l.members)))) × (l.count ≤ l.row-index)
