use Rattle.sdb_serve.proofs.CommitsLemmas.{Keeps}
use Rattle.sdb_serve.proofs.turn.commit_all.Given as goal

abbrev pub invariant-loop-made : goal.invariant-loop-made
invariant-loop-made g l =
    Keeps l.fn.core l.core (g.D.Disk.state l.fn.disk) (g.D.Disk.state l.disk) (g.L.Links.state l.fn.links) (g.L.Links.state l.links) l.lost l._made
