use Rattle.sdb_base.proofs.PairsLemmas.{HasDistinctNames-push}
use Rattle.sdb_base.proofs.params.Params.add.Goals as goal

pub invariant_of-self-2 : goal.invariant_of-self-2
invariant_of-self-2 c = rw c.in_ok-push.ensures.items (HasDistinctNames-push _ _ _ c.self.invariant (rw c.self.view_is c.requires))
