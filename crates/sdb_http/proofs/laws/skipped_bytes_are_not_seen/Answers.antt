use Rattle.sdb_http.proofs.FeedLemmas.{Reads-from_trim, Reads-trim}
use Rattle.sdb_http.proofs.laws.skipped_bytes_are_not_seen.Goals as goal

pub returns-clause-skipped : goal.returns-clause-skipped
returns-clause-skipped c = λ bytes xs all. (all.0, all.1, Reads-trim bytes xs all.0 all.1 all.2, all.3)

pub returns-clause-kept : goal.returns-clause-kept
returns-clause-kept c = λ bytes xs all. (all.0, all.1, Reads-from_trim bytes xs all.0 all.1 all.2, all.3)
