use Rattle.sdb_action.proofs.AskedLemmas.{order_is_free}
use Rattle.sdb_action.proofs.laws.order_is_free.Goals as goal

pub returns : goal.returns
returns c = order_is_free
