use Rattle.sdb_store.proofs.FrameLemmas.{holds, pending_told}
use Rattle.sdb_store.proofs.store.Store.has_pending.Goals as goal

pub returns : goal.returns
returns c = rw (← c.self.view_is) (pending_told c.self.inside.count c.self.inside.frame.items (holds c.self.inside.count c.self.inside.frame.items c.self.invariant.0))
