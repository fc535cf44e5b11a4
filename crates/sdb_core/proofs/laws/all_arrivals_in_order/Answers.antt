use Rattle.sdb_core.proofs.LawLemmas.{all_in_order}
use Rattle.sdb_core.proofs.laws.all_arrivals_in_order.Goals as goal

pub returns : goal.returns
returns c = all_in_order
