use Rattle.sdb_pairs.proofs.SettleLemmas.{places_settle}
use Rattle.sdb_pairs.proofs.laws.places_settle.Goals as goal

pub returns : goal.returns
returns c = places_settle
