use Rattle.std.proofs.Common.{arith}
use Rattle.sdb_replay.proofs.FillLemmas.{Filling-none, Filling-more}
use Rattle.sdb_replay.proofs.keyed.fill.Goals as goal

pub loop-filled-init : goal.loop-filled-init
loop-filled-init g c = Filling-none (g.S.Source.left c.args.source.now) (g.S.Source.faults c.args.source.now) c.args.buffer.now

pub loop-filled-preserved : goal.loop-filled-preserved
loop-filled-preserved g c =
    Filling-more _ _ _ _ _ _ c.loop-filled.buffer c.read.new.buf c.loop-filled.filled _ c.in_ok-count.count c.loop-filled.invariant c.in_ok-count.ensures.cause.later
    (omega (arith, c.read.auto.buf)) (omega (arith, c.in_ok-count.ensures.bound)) c.in_ok-count.ensures.bytes.0
