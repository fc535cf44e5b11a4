use Rattle.sdb_journal.proofs.CreateLemmas.{stands_on}
use Rattle.sdb_journal.proofs.journal.Journal.create.Goals as goal

pub returns-in_err-make_first-clause-stands : goal.returns-in_err-make_first-clause-stands
returns-in_err-make_first-clause-stands g c told accounts number on =
    stands_on (g.D.Disk.state c.args.disk.now) (g.D.Disk.state c.make_first.new.disk) accounts number (g.met.D.Disk.may_stay c.args.disk.now 2 told) (c.requires.closed told) on
    (c.make_first.ensures.images told)

pub returns-clause-stands : goal.returns-clause-stands
returns-clause-stands g c told accounts number on =
    stands_on (g.D.Disk.state c.args.disk.now) (g.D.Disk.state c.make_first.new.disk) accounts number (g.met.D.Disk.may_stay c.args.disk.now 2 told) (c.requires.closed told) on
    (c.make_first.ensures.images told)
