use Rattle.sdb_sign.proofs.Verdicts.{one_verdict}
use Rattle.sdb_sign.proofs.laws.one_verdict.Goals as goal

pub returns : goal.returns
returns c = one_verdict
