use Rattle.std.proofs.Common.{◌≡◌, ◌≤◌, map, take}
use Rattle.sdb_parse.specs.Meaning.{has_value, meaning, together}
use Rattle.sdb_page.specs.Seen.{count_in}
use Rattle.sdb_page.proofs.counting.count_for_all.Given as goal

abbrev pub invariant-loop-row : goal.invariant-loop-row
invariant-loop-row l = (l.count ≡ count_in (take l.row-index l.rows) (has_value l.attr (together (map meaning l.members) l.attr))) × (l.count ≤ l.row-index)
