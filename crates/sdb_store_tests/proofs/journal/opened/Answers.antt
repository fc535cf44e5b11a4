use Rattle.sdb_journal.specs.Heads.{HasHead}
use Rattle.sdb_journal.proofs.HeadLemmas.{head_open}
use Rattle.sdb_journal.proofs.LookLemmas.{still}
use Rattle.sdb_store_tests.proofs.journal.opened.Goals as goal

pub start-requires-clause-gate : goal.start-requires-clause-gate
start-requires-clause-gate g c told =
    let some = rw c.in-Ok-Some.field-0-is at c.in-Ok-Some.ensures.some in
    head_open c.in-Ok-Some.field-0-0.0 c.in-Ok-Some.field-0-0.1 _
    (still (g.D.Disk.state c.args.disk.now) (g.D.Disk.state c.read_head.new.disk) 2 (HasHead c.in-Ok-Some.field-0-0.0 c.in-Ok-Some.field-0-0.1) c.read_head.ensures.looks some told)
