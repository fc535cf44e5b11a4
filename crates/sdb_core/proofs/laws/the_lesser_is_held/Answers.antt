use Rattle.sdb_core.proofs.LawLemmas.{lesser_is_held}
use Rattle.sdb_core.proofs.laws.the_lesser_is_held.Goals as goal

pub returns : goal.returns
returns c = lesser_is_held
