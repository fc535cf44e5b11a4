use Rattle.sdb_keys.proofs.Words.{one_key}
use Rattle.sdb_keys.proofs.laws.one_key.Goals as goal

pub returns : goal.returns
returns c = one_key
