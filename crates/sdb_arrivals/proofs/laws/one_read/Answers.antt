use Rattle.sdb_arrivals.proofs.ReadLemmas.{one_read_of}
use Rattle.sdb_arrivals.proofs.laws.one_read.Goals as goal

pub returns : goal.returns
returns c = λ keys w a b x y. one_read_of keys w.moment w.request a b x y
