use Rattle.sdb_http.proofs.FeedLemmas.{one_list}
use Rattle.sdb_http.proofs.laws.one_reading.Goals as goal

pub returns : goal.returns
returns c = one_list
