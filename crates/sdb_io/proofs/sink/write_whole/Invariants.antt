use Rattle.std.proofs.Common.{◌≤◌, length}
use Rattle.sdb_io.proofs.CallLemmas.{PartWritten}
use Rattle.sdb_io.proofs.sink.write_whole.Given as goal

abbrev pub invariant-loop-rest : goal.invariant-loop-rest
invariant-loop-rest g l = record {
  part : PartWritten (g.K.Sink.written l.initial.sink) (g.K.Sink.written l.sink) l.initial.rest l.rest;
  later : g.K.Sink.faults l.initial.sink ≤ g.K.Sink.faults l.sink;
}

abbrev pub decreases-loop-rest : goal.decreases-loop-rest
decreases-loop-rest g l = length l.rest
