use Rattle.sdb_arrivals.specs.Queues.{sent_of}
use Rattle.sdb_bench.proofs.TallyLemmas.{Taking-more}
use Rattle.sdb_bench.proofs.tally.Tally.take_all.Goals as goal

pub loop-out-preserved : goal.loop-out-preserved
loop-out-preserved c =
    Taking-more c.args.core.now c.loop-out.core c.take_out.new.self c.args.self.now c.loop-out.self c.take.new.self (sent_of c.in-Some.out) c.loop-out.invariant
    c.in-Some.ensures.taken c.in_ok-take.ensures.served c.in_ok-take.ensures.answers c.in_ok-take.ensures.holds
