use Rattle.sdb_domain.proofs.WholeLemmas.{items_in_order}
use Rattle.sdb_domain.proofs.domain.Domain.of.Goals as goal

pub invariant_of-result : goal.invariant_of-result
invariant_of-result c = record { clean = c.requires; items = items_in_order c.args.held c.sums-sums.ensures.whole }
