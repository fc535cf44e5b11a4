use Rattle.sdb_journal.proofs.LookLemmas.{looks_then}
use Rattle.sdb_store.proofs.first.require_no_checkpoint.Goals as goal

pub returns-in-Ok-require_closed-clause-looks : goal.returns-in-Ok-require_closed-clause-looks
returns-in-Ok-require_closed-clause-looks g c =
    looks_then (g.D.Disk.state c.args.disk.now) (g.D.Disk.state c.require_closed.new.disk) (g.D.Disk.state c.require_closed-in-Ok.new.disk) c.require_closed.ensures.looks c.require_closed-in-Ok.ensures.looks

pub returns-in-Err-require_closed-clause-looks : goal.returns-in-Err-require_closed-clause-looks
returns-in-Err-require_closed-clause-looks g c =
    looks_then (g.D.Disk.state c.args.disk.now) (g.D.Disk.state c.require_closed.new.disk) (g.D.Disk.state c.require_closed-in-Ok.new.disk) c.require_closed.ensures.looks c.require_closed-in-Ok.ensures.looks
