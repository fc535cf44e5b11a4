use Rattle.std.proofs.Common.{length}
use Rattle.sdb_http.proofs.ReadingLemmas.{IsReadTo}
use Rattle.sdb_http.proofs.reading.count_replies.Given as goal

abbrev pub invariant-replies : goal.invariant-replies
invariant-replies l = IsReadTo l.stream l.left l.count

abbrev pub decreases-replies : goal.decreases-replies
decreases-replies l = length l.left
