use Rattle.sdb_http.proofs.FeedLemmas.{StandsFor-back}
use Rattle.sdb_http.proofs.feed.Feed.back.Goals as goal

pub returns-clause-past : goal.returns-clause-past
returns-clause-past c = λ past h. StandsFor-back c.args.self.now c.go_back.new.self past c.go_back.ensures h
