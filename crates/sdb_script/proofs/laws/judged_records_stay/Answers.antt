use Rattle.sdb_script.proofs.Stays.{whole-stays, wrong-stays}
use Rattle.sdb_script.proofs.laws.judged_records_stay.Goals as goal

pub returns-clause-whole : goal.returns-clause-whole
returns-clause-whole c = whole-stays

pub returns-clause-wrong : goal.returns-clause-wrong
returns-clause-wrong c = wrong-stays
