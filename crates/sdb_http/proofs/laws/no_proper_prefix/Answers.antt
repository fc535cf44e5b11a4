use Rattle.sdb_http.proofs.FrontLemmas.{prefix_free}
use Rattle.sdb_http.proofs.laws.no_proper_prefix.Goals as goal

pub returns : goal.returns
returns c = prefix_free
