use Rattle.std.proofs.Common.{arith}
use Rattle.sdb_sign.proofs.Differences.{same_more, same_all}
use Rattle.sdb_sign.proofs.same.is_same.Goals as goal

pub loop-place-preserved : goal.loop-place-preserved
loop-place-preserved c =
    rw (c.byte_at.ensures, c.byte_at-in-loop-place.ensures) (same_more c.loop-place.place c.args.a.now c.args.b.now c.loop-place.differences c.loop-place.invariant)

pub returns : goal.returns
returns c =
    same_all c.loop-place.place c.args.a.now c.args.b.now c.loop-place.differences c.loop-place.invariant (omega arith)
