use Rattle.std.proofs.Common.{ap}
use Rattle.sdb_io.proofs.MemoryLemmas.{taken_off}
use Rattle.sdb_io.proofs.source.memory.MemorySourceSource.read.Goals as goal

pub returns-clause-bytes : goal.returns-clause-bytes
returns-clause-bytes c =
    taken_off _ _ _ _ _ _ _ c.as_slice-2.ensures (ap (λ s. s.left) c.self.view_is) c.copy_front-count.ensures.count c.copy_front-count.ensures.copied
    c.copy_front-count.auto.to
