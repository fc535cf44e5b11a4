use Rattle.sdb_http.proofs.FeedLemmas.{HasNone-empty}
use Rattle.sdb_http.proofs.laws.no_bytes_no_reply.Goals as goal

pub returns : goal.returns
returns c = HasNone-empty
