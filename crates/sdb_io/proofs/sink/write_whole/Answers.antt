use Rattle.std.proofs.Common.{arith}
use Rattle.sdb_io.proofs.CallLemmas.{PartWritten-more, PartWritten-kept, PartWritten-front}
use Rattle.sdb_io.proofs.sink.write_whole.Goals as goal

pub returns-in_err-count-clause-front : goal.returns-in_err-count-clause-front
returns-in_err-count-clause-front g c =
    PartWritten-front _ _ _ _ (PartWritten-kept _ _ _ _ _ c.loop-rest.invariant.part c.in_err-count.ensures.bytes)

pub loop-rest-preserved : goal.loop-rest-preserved
loop-rest-preserved g c = record {
  part = PartWritten-more _ _ _ _ _ _ c.loop-rest.invariant.part c.in_ok-count.ensures.bytes;
  later = omega (arith, c.loop-rest.invariant.later, c.in_ok-count.ensures.cause.later);
}
