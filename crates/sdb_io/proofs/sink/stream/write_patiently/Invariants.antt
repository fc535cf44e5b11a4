use Rattle.std.specs.Io.KnownBytes.{Keeps}
use Rattle.sdb_io.proofs.sink.stream.write_patiently.Given as goal

-- an interrupted write takes nothing
abbrev pub invariant-tries : goal.invariant-tries
invariant-tries g l = Keeps (g.W.Write.contents l.initial.writer) (g.W.Write.contents l.writer)
