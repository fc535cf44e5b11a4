use Rattle.std.proofs.Common.{ap}
use Rattle.sdb_arrivals.specs.Story.{answer_of, event_of}
use Rattle.sdb_core.proofs.StepLemmas.{steps_commit, steps_ended, steps_none, steps_opened, steps_piece, steps_work}
use Rattle.sdb_core.proofs.the_core.Core.advance.Goals as goal
use Rattle.sdb_core.proofs.the_core.Core.advance.Goals.{in-Ok, in-Err}

pub returns-in-Opened-clause-steps : goal.returns-in-Opened-clause-steps
returns-in-Opened-clause-steps g c =
    let it = c.self.inside in
    let s = g.D.Disk.state c.args.disk.now in
    rw (ap event_of c.in-Opened.is, ← c.self.view_is)
    (steps_opened it.keys it.table c.open.new.table it.line it.store s c.args.items.now (g.met.D.Disk.only_now c.args.disk.now) c.in-Opened.conn (answer_of c.open.result) c.open.ensures.turns)

pub returns-after-piece-clause-steps : goal.returns-after-piece-clause-steps
returns-after-piece-clause-steps g c =
    let it = c.self.inside in
    let s = g.D.Disk.state c.args.disk.now in
    let bytes = c.in-Piece.bytes.now in
    let only_now = g.met.D.Disk.only_now c.args.disk.now in
    elim c.match-piece.branch [
      | in-Ok w ↦ rw (ap event_of c.in-Piece.is, ← c.self.view_is, ap answer_of w.result-is)
          (steps_piece it.keys c.in-Piece.conn c.in-Piece.moment bytes it.table it.line it.store s c.args.items.now c.piece.new.items only_now c.piece.new.table c.piece.new.line c.piece.new.store w.in-Ok.ensures.ok)
      | in-Err w ↦ rw (ap event_of c.in-Piece.is, ← c.self.view_is, ap answer_of w.result-is)
          (steps_none it.keys c.in-Piece.conn c.in-Piece.moment bytes it.table it.line it.store s c.args.items.now c.piece.new.items only_now c.piece.new.table c.piece.new.line c.piece.new.store w.in-Err.ensures.err.0 w.in-Err.ensures.err.1 w.in-Err.ensures.err.2 w.in-Err.ensures.err.3)
    ]

pub returns-in-Ended-clause-steps : goal.returns-in-Ended-clause-steps
returns-in-Ended-clause-steps g c =
    let it = c.self.inside in
    let s = g.D.Disk.state c.args.disk.now in
    rw (ap event_of c.in-Ended.is, ← c.self.view_is)
    (steps_ended it.keys it.table c.end.new.self it.line it.store s c.args.items.now (g.met.D.Disk.only_now c.args.disk.now) c.in-Ended.conn c.end.ensures)

pub returns-in-Commit-clause-steps : goal.returns-in-Commit-clause-steps
returns-in-Commit-clause-steps g c =
    let it = c.self.inside in
    rw (ap event_of c.in-Commit.is, ← c.self.view_is)
    (steps_commit it.keys it.table (answer_of c.commit.result) it.line c.commit.new.line it.store c.commit.new.store (g.D.Disk.state c.args.disk.now) (g.D.Disk.state c.commit.new.disk) c.args.items.now c.commit.new.items c.commit.ensures.makes)

pub returns-in-Work-clause-steps : goal.returns-in-Work-clause-steps
returns-in-Work-clause-steps g c =
    let it = c.self.inside in
    rw (ap event_of c.in-Work.is, ← c.self.view_is)
    (steps_work it.keys it.table (answer_of c.work.result) it.line it.store c.work.new.store (g.D.Disk.state c.args.disk.now) (g.D.Disk.state c.work.new.disk) c.args.items.now (c.work.ensures.makes it.line c.args.items.now))
