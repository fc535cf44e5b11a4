use Rattle.std.proofs.Common.{IsTrue, sym, subst, arith}
use Rattle.sdb_journal.specs.Appends.{body_of}
use Rattle.sdb_journal.proofs.AppendLemmas.{first_leaves_at, both_leave_at, appended_at}
use Rattle.sdb_journal.proofs.append.append_at.Goals as goal

pub returns-in_err-write_durably-clause-images : goal.returns-in_err-write_durably-clause-images
returns-in_err-write_durably-clause-images g c told place bodies gate_is number_is at =
    first_leaves_at c.args.file c.args.gate c.args.number (body_of c.args.frame.now) c.fill.new.frame (g.D.Disk.state c.args.disk.now) (g.D.Disk.state c.write_durably.new.disk)
    place bodies gate_is number_is at c.write_durably.ensures.images

pub returns-in_err-write_durably-2-clause-images : goal.returns-in_err-write_durably-2-clause-images
returns-in_err-write_durably-2-clause-images g c told place bodies gate_is number_is at =
    both_leave_at c.args.file c.args.gate c.args.number (body_of c.args.frame.now) c.fill.new.frame (g.D.Disk.state c.args.disk.now) (g.D.Disk.state c.write_durably.new.disk)
    place bodies gate_is number_is at (g.D.Disk.state c.write_durably-2.new.disk) c.fill.ensures told c.in_ok-write_durably.ensures.done
    c.write_durably.ensures.time c.write_durably-2.ensures.time c.write_durably.ensures.images c.write_durably-2.ensures.images

pub returns-clause-images : goal.returns-clause-images
returns-clause-images g c told place bodies gate_is number_is at =
    both_leave_at c.args.file c.args.gate c.args.number (body_of c.args.frame.now) c.fill.new.frame (g.D.Disk.state c.args.disk.now) (g.D.Disk.state c.write_durably.new.disk)
    place bodies gate_is number_is at (g.D.Disk.state c.write_durably-2.new.disk) c.fill.ensures told c.in_ok-write_durably.ensures.done
    c.write_durably.ensures.time c.write_durably-2.ensures.time c.write_durably.ensures.images c.write_durably-2.ensures.images

pub returns-clause-done : goal.returns-clause-done
returns-clause-done g c told place after bodies gate_is number_is at generation first gate sequence =
    appended_at c.args.file c.args.gate c.args.number (body_of c.args.frame.now) c.fill.new.frame (g.D.Disk.state c.args.disk.now) (g.D.Disk.state c.write_durably.new.disk)
    place bodies gate_is number_is at (g.D.Disk.state c.write_durably-2.new.disk) c.fill.ensures told c.in_ok-write_durably.ensures.done
    after (subst IsTrue (sym c.write_durably.ensures.told) told) c.in_ok-write_durably-2.ensures.done generation first (omega (arith, gate)) sequence
