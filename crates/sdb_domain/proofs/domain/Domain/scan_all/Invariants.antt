use Rattle.std.proofs.Common.{◌≡◌, ◌+◌, length, map}
use Rattle.std.specs.Map.Iter.{deref_pair}
use Rattle.sdb_domain.specs.Rows.{seen_row}
use Rattle.sdb_domain.proofs.domain.Domain.scan_all.Given as goal

abbrev pub invariant-loop-name : goal.invariant-loop-name
invariant-loop-name g l = (map seen_row l.rows.items ≡ map deref_pair l.yielded) × (l.items ≡ l.fn.items + length l.yielded)
