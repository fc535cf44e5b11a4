use Rattle.std.proofs.Common.{IsTrue, subst}
use Rattle.sdb_core.specs.Ledgers.{durable, number}
use Rattle.sdb_core.proofs.CommitLemmas.{reopens_all}
use Rattle.sdb_core.proofs.committing.reopen.Goals as goal

pub returns-in-Ok-clause-ok : goal.returns-in-Ok-clause-ok
returns-in-Ok-clause-ok g c =
    reopens_all c.args.line.now c.fill.new.line c.args.store.now c.reopen.new.self c.fill.new.store (g.D.Disk.state c.args.disk.now) (g.D.Disk.state c.reopen.new.disk) c.args.items.now c.fill.new.items (g.D.Disk.state c.args.disk.now).told
    c.requires.none c.in-Ok.ensures.ok.0 c.in-Ok.ensures.ok.1 c.in-Ok.ensures.kept_ok c.fill.ensures.fills

pub returns-in-Err-clause-sure : goal.returns-in-Err-clause-sure
returns-in-Err-clause-sure g c t o l h = c.in-Err.ensures.sure t (durable o l.groups) (number o l.groups) l.undecided h.keeps

pub returns-in-Err-clause-refused : goal.returns-in-Err-clause-refused
returns-in-Err-clause-refused g c k e = (c.in-Err.ensures.refused k e).0

pub returns-in-Ok-clause-stood : goal.returns-in-Ok-clause-stood
returns-in-Ok-clause-stood g c told = (c.reopen.new.self.accounts, c.reopen.new.self.journal.sequence, c.in-Ok.ensures.value told)

pub returns-in-Ok-clause-still : goal.returns-in-Ok-clause-still
returns-in-Ok-clause-still g c told = (c.reopen.new.self.accounts, c.reopen.new.self.journal.sequence, c.in-Ok.ensures.still (subst IsTrue c.reopen.ensures.told told))
