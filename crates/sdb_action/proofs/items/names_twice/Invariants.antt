use Rattle.std.proofs.Common.{◌≡◌, length}
use Rattle.sdb_action.specs.Lists.{names_twice}
use Rattle.sdb_action.proofs.items.names_twice.Given as goal

abbrev pub invariant-loop-rest : goal.invariant-loop-rest
invariant-loop-rest g l = names_twice g.T.Named.named l.rest ≡ names_twice g.T.Named.named l.items

abbrev pub decreases-loop-rest : goal.decreases-loop-rest
decreases-loop-rest g l = length l.rest
