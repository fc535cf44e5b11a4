use Rattle.sdb_arrivals.proofs.FollowingLemmas.{full_live}
use Rattle.sdb_arrivals.proofs.laws.full_exactly_where_64_are_live.Goals as goal

pub returns : goal.returns
returns c = full_live
