use Rattle.std.proofs.Common.{IsTrue, sym, subst}
use Rattle.sdb_journal.proofs.CreateLemmas.{header_leaves, open_leaves, made}
use Rattle.sdb_journal.proofs.create.make_first.Goals as goal

pub returns-in_err-write_durably-clause-images : goal.returns-in_err-write_durably-clause-images
returns-in_err-write_durably-clause-images g c told =
    header_leaves (g.D.Disk.state c.args.disk.now) (g.D.Disk.state c.shut.new.disk) (g.D.Disk.state c.write_durably.new.disk) told c.in_ok-shut.ensures.done
    c.shut.ensures.time (c.shut.ensures.images told) c.write_durably.ensures.time c.write_durably.ensures.images

pub returns-in_err-write_durably-2-clause-images : goal.returns-in_err-write_durably-2-clause-images
returns-in_err-write_durably-2-clause-images g c told =
    open_leaves (g.D.Disk.state c.args.disk.now) (g.D.Disk.state c.shut.new.disk) (g.D.Disk.state c.write_durably.new.disk) told c.in_ok-shut.ensures.done
    c.shut.ensures.time (c.shut.ensures.images told) c.write_durably.ensures.time c.write_durably.ensures.images
    (g.D.Disk.state c.write_durably-2.new.disk) (subst IsTrue (sym c.shut.ensures.told) told) c.in_ok-write_durably.ensures.done
    c.write_durably-2.ensures.time c.write_durably-2.ensures.images

pub returns-clause-images : goal.returns-clause-images
returns-clause-images g c told =
    open_leaves (g.D.Disk.state c.args.disk.now) (g.D.Disk.state c.shut.new.disk) (g.D.Disk.state c.write_durably.new.disk) told c.in_ok-shut.ensures.done
    c.shut.ensures.time (c.shut.ensures.images told) c.write_durably.ensures.time c.write_durably.ensures.images
    (g.D.Disk.state c.write_durably-2.new.disk) (subst IsTrue (sym c.shut.ensures.told) told) c.in_ok-write_durably.ensures.done
    c.write_durably-2.ensures.time c.write_durably-2.ensures.images

pub returns-clause-done : goal.returns-clause-done
returns-clause-done g c =
    made (g.D.Disk.state c.args.disk.now) (g.D.Disk.state c.shut.new.disk) (g.D.Disk.state c.write_durably.new.disk) (g.D.Disk.state c.write_durably-2.new.disk)
    (λ told. subst IsTrue (sym c.shut.ensures.told) told) (λ told. subst IsTrue (sym c.write_durably.ensures.told) told)
    c.in_ok-shut.ensures.done c.in_ok-write_durably.ensures.done c.in_ok-write_durably-2.ensures.done
