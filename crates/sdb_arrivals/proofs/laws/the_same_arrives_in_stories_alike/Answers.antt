use Rattle.sdb_arrivals.proofs.AlikeLemmas.{alike_same}
use Rattle.sdb_arrivals.proofs.laws.the_same_arrives_in_stories_alike.Goals as goal

pub returns : goal.returns
returns c = alike_same
