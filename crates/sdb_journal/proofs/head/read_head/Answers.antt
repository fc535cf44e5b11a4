use Rattle.std.proofs.Common.{◌≡◌, length, arith}
use Rattle.sdb_journal.proofs.HeadLemmas.{has_head, bad_head}
use Rattle.sdb_journal.proofs.head.read_head.Goals as goal

pub returns-in-Some-clause-some : goal.returns-in-Some-clause-some
returns-in-Some-clause-some g c told =
    let size : length c.read.new.buf ≡ 26 = omega (arith, c.read.auto.buf) in
    has_head ((g.D.Disk.state c.args.disk.now).seen c.args.file) c.read.new.buf c.in-Ok.size size (c.in-Ok.ensures.count told) (c.in-Ok.ensures.bytes told)
    c.if-size-lt26.false _ _ _ c.in-Some.ensures.some

pub returns-in-None-clause-refused : goal.returns-in-None-clause-refused
returns-in-None-clause-refused g c k is =
    let size : length c.read.new.buf ≡ 26 = omega (arith, c.read.auto.buf) in (
      cc,
      λ told. bad_head ((g.D.Disk.state c.args.disk.now).seen c.args.file) c.read.new.buf c.in-Ok.size size (c.in-Ok.ensures.count told) (c.in-Ok.ensures.bytes told)
          c.if-size-lt26.false c.args.file c.if-front-ne1.false c.in-None.ensures.none,
    )
