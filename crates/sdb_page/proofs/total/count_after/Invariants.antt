use Rattle.std.proofs.Common.{◌≡◌, ◌≤◌, length, take, option_map}
use Rattle.sdb_page.specs.Pages.{after}
use Rattle.sdb_page.specs.Seen.{seen_place}
use Rattle.sdb_page.specs.Spots.{spot_cmp}
use Rattle.sdb_page.proofs.KeptLemmas.{placed_of}
use Rattle.sdb_page.proofs.total.count_after.Given as goal

abbrev pub invariant-loop-row : goal.invariant-loop-row
invariant-loop-row l = (l.count ≡ length (after spot_cmp (placed_of l.sort (take l.row-index l.rows)) (option_map seen_place l.start))) × (l.count ≤ l.row-index)
