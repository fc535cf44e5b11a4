use Rattle.std.proofs.Common.{◌≡◌, map, take}
use Rattle.sdb_page.specs.Seen.{seen_entry}
use Rattle.sdb_page.specs.Selects.{shown_as}
use Rattle.sdb_page.proofs.showing.show_all.Given as goal

abbrev pub invariant-loop-row : goal.invariant-loop-row
invariant-loop-row l = l.items ≡ map (shown_as l.output) (map seen_entry (take l.row-index l.rows))
