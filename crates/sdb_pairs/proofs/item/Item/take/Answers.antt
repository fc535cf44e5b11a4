use Rattle.sdb_pairs.proofs.PairLemmas.{rising_none}
use Rattle.sdb_pairs.proofs.item.Item.take.Goals as goal

pub invariant_of-self : goal.invariant_of-self
invariant_of-self c = rising_none _ c.clear.ensures.items
