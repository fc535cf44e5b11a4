use Rattle.std.proofs.Common.{◌≡◌, vec_len}
use Rattle.sdb_domain.specs.Names.{name_undone}
use Rattle.sdb_domain.specs.Keyed.{unwound}
use Rattle.sdb_domain.proofs.names.Names.unwind.Given as goal

abbrev pub invariant-loop-was : goal.invariant-loop-was
invariant-loop-was l = unwound name_undone l.self l.log.items ≡ unwound name_undone l.initial.self l.initial.log.items

abbrev pub decreases-loop-was : goal.decreases-loop-was
decreases-loop-was l = vec_len l.log
