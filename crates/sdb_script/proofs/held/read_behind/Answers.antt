use Rattle.std.proofs.Common.{◌≡◌, ◌+◌, length, arith}
use borrow.Rule.Slice.PartMut.{mid_len}
use Rattle.sdb_script.proofs.HeldLemmas.{read_took, on_err, range-unread}
use Rattle.sdb_script.proofs.held.read_behind.Goals as goal

pub returns-clause-took : goal.returns-clause-took
returns-clause-took g c =
    let size : length c.read.new.buf ≡ c.args.room = omega (arith, c.read.auto.buf, mid_len c.args.end (c.args.end + c.args.room) c.args.buffer.now c.requires.inside) in
    read_took c.read.result c.args.buffer.now c.read.new.buf _ _ _ c.args.start c.args.end c.args.room
    c.requires.order (omega (arith, c.requires.inside)) c.requires.some size c.read.ensures.bound c.read.ensures.bytes

pub returns-clause-err : goal.returns-clause-err
returns-clause-err g c =
    on_err c.read.result (range-unread c.args.buffer.now c.read.new.buf _ c.args.start c.args.end c.requires.order (omega (arith, c.requires.inside)))
