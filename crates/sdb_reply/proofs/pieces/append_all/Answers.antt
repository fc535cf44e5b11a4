use Rattle.std.proofs.Common.{sym, append-nil, arith}
use Rattle.sdb_reply.proofs.LoopLemmas.{appended-at, room-at, room-left}
use Rattle.sdb_reply.proofs.pieces.append_all.Goals as goal

pub loop-piece-init : goal.loop-piece-init
loop-piece-init c = record { text = sym (append-nil c.args.out.now.bytes); room = omega arith }

pub loop-piece-preserved : goal.loop-piece-preserved
loop-piece-preserved c =
    let pieces = c.args.pieces.now in
    let i = c.loop-piece.piece-index in
    let so_far = c.loop-piece.invariant in
    record {
      text = appended-at (λ p. p.now) pieces i _ c.args.out.now.bytes c.loop-piece.out.bytes c.append.new.self.bytes c.loop-piece-test.true so_far.text c.in_ok-append.ensures.ok;
      room = room-at (λ p. p.now) pieces i _ c.args.out.now.spare c.loop-piece.out.spare c.append.new.self.spare c.loop-piece-test.true so_far.room c.append.ensures.spare;
    }

pub returns-in_err-append-clause-room : goal.returns-in_err-append-clause-room
returns-in_err-append-clause-room c =
    λ all. let wrong = c.in_err-append.ensures.room (room-left (λ p. p.now) c.args.pieces.now c.loop-piece.piece-index _ c.args.out.now.spare c.loop-piece.out.spare c.loop-piece-test.true c.loop-piece.invariant.room all) in cc
