use Rattle.sdb_arrivals.specs.Queues.{sent_of}
use Rattle.sdb_serve.proofs.SendLemmas.{Sends-failed}
use Rattle.sdb_serve.proofs.send.send_unless_lost.Goals as goal

pub returns-in-Err-clause-sends : goal.returns-in-Err-clause-sends
returns-in-Err-clause-sends g c = λ gone is.
    Sends-failed (sent_of c.args.out.now) (g.L.Links.state c.args.links.now) (g.L.Links.state c.send.new.links) c.args.lost gone c.if-eq.ensures is c.in-Err.ensures.cause.failed c.in-Err.ensures.err
