use Rattle.std.proofs.Common.{◌≡◌, filter, map}
use Rattle.std.specs.Map.Iter.{deref_pair}
use Rattle.sdb_domain.specs.Rows.{seen_row}
use Rattle.sdb_page.specs.Seen.{has_fit}
use Rattle.sdb_page.proofs.finding.scan_fitting.Given as goal

abbrev pub invariant-loop-name : goal.invariant-loop-name
invariant-loop-name g l = map seen_row l.rows.items ≡ filter (has_fit l.attr l.test) (map deref_pair l.yielded)
