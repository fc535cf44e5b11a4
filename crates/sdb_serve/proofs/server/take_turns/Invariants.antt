use Rattle.sdb_serve.proofs.TurnedLemmas.{Drives}
use Rattle.sdb_serve.proofs.server.take_turns.Given as goal

abbrev pub invariant-loop-made : goal.invariant-loop-made
invariant-loop-made g l =
    Drives l._made l.fn.core l.core (g.D.Disk.state l.fn.disk) (g.D.Disk.state l.disk) (g.L.Links.state l.fn.links) (g.L.Links.state l.links)
    (g.C.Clock.to_come l.fn.clock) (g.C.Clock.to_come l.clock)
