use Rattle.sdb_journal.specs.Reads.{IsBadJournal}
use Rattle.sdb_journal.proofs.LookLemmas.{looks_then, back}
use Rattle.sdb_journal.proofs.journal.Journal.start.Goals as goal

pub returns-in-Err-behind_head-clause-refused : goal.returns-in-Err-behind_head-clause-refused
returns-in-Err-behind_head-clause-refused g c k is =
    let refused = c.in-Err-behind_head.ensures.refused k is in (
      refused.0,
      back (g.D.Disk.state c.args.disk.now) (g.D.Disk.state c.read_head.new.disk) c.args.file (IsBadJournal c.args.file) c.read_head.ensures.looks refused.1,
    )

pub returns-in-Err-behind_head-clause-looks : goal.returns-in-Err-behind_head-clause-looks
returns-in-Err-behind_head-clause-looks g c =
    looks_then (g.D.Disk.state c.args.disk.now) (g.D.Disk.state c.read_head.new.disk) (g.D.Disk.state c.behind_head.new.disk) c.read_head.ensures.looks c.behind_head.ensures.looks
