use Rattle.sdb_write.proofs.WriteLemmas.{writes_keep_accounts}
use Rattle.sdb_write.proofs.laws.writes_keep_accounts_rising.Goals as goal

pub returns : goal.returns
returns c = writes_keep_accounts
