use Rattle.sdb_replay.proofs.DecidedLemmas.{all_decided}
use Rattle.sdb_replay.proofs.laws.without_a_fault_all_is_decided.Goals as goal

pub returns : goal.returns
returns c = all_decided
