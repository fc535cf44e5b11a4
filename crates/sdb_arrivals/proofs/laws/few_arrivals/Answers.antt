use Rattle.sdb_arrivals.proofs.CountingLemmas.{few_arrivals}
use Rattle.sdb_arrivals.proofs.laws.few_arrivals.Goals as goal

pub returns : goal.returns
returns c = few_arrivals
