use Rattle.sdb_page.proofs.PositionLemmas.{next-small}
use Rattle.sdb_page.proofs.laws.positions_are_small.Goals as goal

pub returns : goal.returns
returns c = next-small
