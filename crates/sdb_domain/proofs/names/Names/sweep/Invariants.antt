use Rattle.std.proofs.Common.{take}
use Rattle.sdb_domain.specs.Names.{SweepsNames}
use Rattle.sdb_domain.proofs.names.Names.sweep.Given as goal

abbrev pub invariant-loop-was : goal.invariant-loop-was
invariant-loop-was l = SweepsNames l.initial.self l.self (take l.was-index l.log)
