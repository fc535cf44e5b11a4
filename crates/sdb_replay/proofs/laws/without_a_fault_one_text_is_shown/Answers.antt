use Rattle.sdb_replay.proofs.OneLemmas.{one_is_shown}
use Rattle.sdb_replay.proofs.laws.without_a_fault_one_text_is_shown.Goals as goal

pub returns : goal.returns
returns c = one_is_shown
