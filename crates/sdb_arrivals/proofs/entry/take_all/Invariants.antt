use Rattle.std.proofs.Common.{◌≡◌}
use Rattle.sdb_http.specs.Feeds.{work}
use Rattle.sdb_arrivals.specs.Inside.{TakesOff}
use Rattle.sdb_arrivals.proofs.entry.take_all.Given as goal

abbrev pub invariant-takes : goal.invariant-takes
invariant-takes l =
    TakesOff l.keys l.origin.conn l.origin.moment l.initial.feed l.feed l.initial.counts l.counts l.initial.line l.line × (l.feed.before ≡ l.initial.feed.before)

abbrev pub decreases-takes : goal.decreases-takes
decreases-takes l = work l.feed
