use Rattle.sdb_answer.proofs.OutcomeLemmas as lemmas
use Rattle.sdb_answer.proofs.laws.changes_lead_after.Goals as goal

pub returns : goal.returns
returns c = lemmas.changes_lead_after
