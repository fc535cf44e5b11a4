use Rattle.std.proofs.Common.{◌≡◌, map, []}
use Rattle.std.specs.Map.Iter.{deref_pair}
use Rattle.sdb_domain.specs.Slots.{shown}
use Rattle.sdb_domain.specs.Keyed.{seen}
use Rattle.sdb_domain.proofs.account.Account.domain_after.Given as goal

abbrev pub invariant-loop-name : goal.invariant-loop-name
invariant-loop-name l = seen shown (map deref_pair l.yielded) ≡ []
