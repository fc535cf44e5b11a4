use Rattle.std.proofs.Common.{◌≡◌, ◌≤◌, take}
use Rattle.sdb_parse.specs.Meaning.{predicate_needs}
use Rattle.sdb_page.specs.Seen.{count_in}
use Rattle.sdb_page.proofs.counting.count_that_can_hold.Given as goal

abbrev pub invariant-loop-row : goal.invariant-loop-row
invariant-loop-row l = (l.count ≡ count_in (take l.row-index l.rows) (predicate_needs l.operand l.test)) × (l.count ≤ l.row-index)
