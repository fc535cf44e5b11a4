use Rattle.sdb_base.proofs.PairsLemmas.{HasDistinctNames-none}
use Rattle.sdb_base.proofs.params.Params.new.Goals as goal

pub invariant_of-result : goal.invariant_of-result
invariant_of-result c = rw c.new.ensures.items HasDistinctNames-none
