use Rattle.sdb_bench.proofs.GivenLemmas.{taken_off}
use Rattle.sdb_bench.proofs.given.GivenSource.read.Goals as goal

pub returns-clause-bytes : goal.returns-clause-bytes
returns-clause-bytes c =
    taken_off _ _ _ _ _ _ _ c.as_slice.ensures c.self.view_is c.copy_front-count.ensures.count c.copy_front-count.ensures.copied
    c.copy_front-count.auto.to
