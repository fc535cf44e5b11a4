use Rattle.sdb_arrivals.proofs.CountingLemmas.{numbered_from_one}
use Rattle.sdb_arrivals.proofs.laws.arrivals_are_numbered.Goals as goal

pub returns : goal.returns
returns c = numbered_from_one
