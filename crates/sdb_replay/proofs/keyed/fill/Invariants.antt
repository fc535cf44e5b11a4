use Rattle.std.proofs.Common.{length, ◌-◌}
use Rattle.sdb_replay.proofs.FillLemmas.{Filling}
use Rattle.sdb_replay.proofs.keyed.fill.Given as goal

abbrev pub invariant-loop-filled : goal.invariant-loop-filled
invariant-loop-filled g l =
    Filling (g.S.Source.left l.fn.source) (g.S.Source.left l.source) (g.S.Source.faults l.fn.source) (g.S.Source.faults l.source) l.buffer l.filled (length l.initial.buffer)

abbrev pub decreases-loop-filled : goal.decreases-loop-filled
decreases-loop-filled g l = length l.initial.buffer - l.filled
