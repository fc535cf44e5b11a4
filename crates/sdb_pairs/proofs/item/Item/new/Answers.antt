use Rattle.sdb_pairs.proofs.PairLemmas.{rising_none}
use Rattle.sdb_pairs.proofs.item.Item.new.Goals as goal

pub invariant_of-result : goal.invariant_of-result
invariant_of-result c = rising_none _ c.new.ensures.items
