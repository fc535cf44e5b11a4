use Rattle.sdb_arrivals.specs.Queues.{sent_of}
use Rattle.sdb_serve.proofs.SendLemmas.{SentSoFar-none, SentSoFar-more, SentSoFar-all}
use Rattle.sdb_serve.proofs.send.send_all.Goals as goal

pub loop-out-init : goal.loop-out-init
loop-out-init g c = SentSoFar-none c.args.core.now c.args.lost (g.L.Links.state c.args.links.now)

pub loop-out-preserved : goal.loop-out-preserved
loop-out-preserved g c =
    let sends = c.send_unless_lost-lost.ensures in
    SentSoFar-more c.args.core.now c.loop-out.core c.take_out.new.self c.args.lost c.loop-out.lost c.send_unless_lost-lost.result
    (g.L.Links.state c.args.links.now) (g.L.Links.state c.loop-out.links) (g.L.Links.state c.send_unless_lost-lost.new.links) (sent_of c.in-Some.out)
    c.loop-out.invariant c.in-Some.ensures.taken sends.told sends.last sends.later sends.sends
