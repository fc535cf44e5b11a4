use Rattle.sdb_journal.proofs.LookLemmas.{looks_then}
use Rattle.sdb_store.proofs.first.read_journals.Goals as goal

pub returns-in-Ok-require_closed-clause-looks : goal.returns-in-Ok-require_closed-clause-looks
returns-in-Ok-require_closed-clause-looks g c =
    looks_then (g.D.Disk.state c.args.disk.now) (g.D.Disk.state c.read_first.new.disk) (g.D.Disk.state c.require_closed.new.disk) c.read_first.ensures.looks c.require_closed.ensures.looks

pub returns-in-Err-require_closed-clause-looks : goal.returns-in-Err-require_closed-clause-looks
returns-in-Err-require_closed-clause-looks g c =
    looks_then (g.D.Disk.state c.args.disk.now) (g.D.Disk.state c.read_first.new.disk) (g.D.Disk.state c.require_closed.new.disk) c.read_first.ensures.looks c.require_closed.ensures.looks
