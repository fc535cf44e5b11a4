use Rattle.std.proofs.Common.{length}
use Rattle.sdb_cli.specs.Fed.{Fed}
use Rattle.sdb_cli.specs.Standing.{standing}
use Rattle.sdb_cli.proofs.session.Session.feed.Given as goal

abbrev pub invariant-lines : goal.invariant-lines
invariant-lines l = Fed (standing l.fn.self) (standing l.self) l.fn.out.bytes l.out.bytes l.fn.piece l.rest

abbrev pub decreases-lines : goal.decreases-lines
decreases-lines l = length l.rest
