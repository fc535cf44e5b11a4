use Rattle.std.proofs.Common.{sym, subst}
use Rattle.sdb_domain.specs.Slots.{AreKept}
use Rattle.sdb_domain.proofs.LogLemmas.{none_kept}
use Rattle.sdb_domain.proofs.accounts.Accounts.new.Goals as goal

pub invariant_of-result : goal.invariant_of-result
invariant_of-result c = subst AreKept (sym c.empty_accounts.ensures) none_kept
