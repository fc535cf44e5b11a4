use Rattle.std.proofs.Common.{◌≡◌, filter, map, take}
use Rattle.sdb_domain.specs.Rows.{seen_row}
use Rattle.sdb_page.specs.Selects.{passes}
use Rattle.sdb_page.proofs.passing.passing.Given as goal

abbrev pub invariant-loop-row : goal.invariant-loop-row
invariant-loop-row l = map seen_row l.passing.items ≡ filter (passes l.cond) (map seen_row (take l.row-index l.rows))
