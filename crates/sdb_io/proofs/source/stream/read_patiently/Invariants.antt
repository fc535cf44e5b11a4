use Rattle.std.specs.Io.KnownBytes.{Keeps}
use Rattle.sdb_io.proofs.source.stream.read_patiently.Given as goal

-- an interrupted read takes nothing
abbrev pub invariant-tries : goal.invariant-tries
invariant-tries g l = Keeps (g.R.Read.remaining l.initial.reader) (g.R.Read.remaining l.reader)
