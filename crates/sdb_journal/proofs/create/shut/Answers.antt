use Rattle.std.proofs.Common.{arith}
use Rattle.sdb_journal.proofs.CreateLemmas.{gate_leaves, shut_by_gate}
use Rattle.sdb_journal.proofs.create.shut.Goals as goal

pub returns-in_err-write_durably-clause-images : goal.returns-in_err-write_durably-clause-images
returns-in_err-write_durably-clause-images g c told =
    gate_leaves (g.D.Disk.state c.args.disk.now) (g.D.Disk.state c.len.new.self) told (c.requires.closed told) c.requires.settled c.len.ensures.same c.len.ensures.time
    (g.D.Disk.state c.write_durably.new.disk) (omega (arith, c.in_ok-len.ensures.length told, c.if-branch-lt-LEAST.true)) c.write_durably.ensures.time c.write_durably.ensures.images

pub returns-in_ok-write_durably-clause-images : goal.returns-in_ok-write_durably-clause-images
returns-in_ok-write_durably-clause-images g c told =
    gate_leaves (g.D.Disk.state c.args.disk.now) (g.D.Disk.state c.len.new.self) told (c.requires.closed told) c.requires.settled c.len.ensures.same c.len.ensures.time
    (g.D.Disk.state c.write_durably.new.disk) (omega (arith, c.in_ok-len.ensures.length told, c.if-branch-lt-LEAST.true)) c.write_durably.ensures.time c.write_durably.ensures.images

pub returns-in_ok-write_durably-clause-done : goal.returns-in_ok-write_durably-clause-done
returns-in_ok-write_durably-clause-done g c =
    shut_by_gate (g.D.Disk.state c.args.disk.now) (g.D.Disk.state c.len.new.self) (g.D.Disk.state c.write_durably.new.disk) c.len.ensures.same c.in_ok-write_durably.ensures.done
