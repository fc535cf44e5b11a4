use Rattle.sdb_pairs.proofs.AgreeLemmas.{places_tell_all}
use Rattle.sdb_pairs.proofs.laws.places_tell_all.Goals as goal

pub returns : goal.returns
returns c = places_tell_all
