use Rattle.sdb_arrivals.proofs.FollowingLemmas.{begin, follow}
use Rattle.sdb_arrivals.proofs.laws.connections_follow_the_story.Goals as goal

pub returns-clause-first : goal.returns-clause-first
returns-clause-first c = begin

pub returns-clause-next : goal.returns-clause-next
returns-clause-next c = follow
