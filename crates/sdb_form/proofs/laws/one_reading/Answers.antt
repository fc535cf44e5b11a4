use Rattle.sdb_form.proofs.Answers.{one_params}
use Rattle.sdb_form.proofs.laws.one_reading.Goals as goal

pub returns : goal.returns
returns c = one_params
