use Rattle.sdb_pairs.proofs.StateLemmas.{are_accounts_state}
use Rattle.sdb_pairs.proofs.laws.changes_keep_accounts_rising.Goals as goal

pub returns : goal.returns
returns c = are_accounts_state
