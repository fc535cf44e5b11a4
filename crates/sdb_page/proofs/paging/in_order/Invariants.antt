use Rattle.std.proofs.Common.{◌≡◌, ◌++◌, map, length}
use Rattle.sdb_page.specs.Seen.{seen_entry}
use Rattle.sdb_page.proofs.paging.in_order.Given as goal

abbrev pub invariant-more : goal.invariant-more
invariant-more l = map seen_entry l.rows.items ++ l.kept ≡ l.fn.kept

abbrev pub decreases-more : goal.decreases-more
decreases-more l = length l.kept
