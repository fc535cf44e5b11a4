use Rattle.std.proofs.Common.{Option, Result, refl, subst, ◌∙◌}
use Rattle.sdb_http.specs.declared.fault.HttpFault.{HttpFault}
use Rattle.sdb_http.specs.declared.message.Message.{Message}
use Rattle.sdb_http.specs.Feeds.{Takes}
use Rattle.sdb_http.specs.Inside.{reply_of, taken}
use Rattle.sdb_arrivals.proofs.TakingLemmas.{takes_more, takes_none}
use Rattle.sdb_arrivals.proofs.entry.take_all.Goals as goal

pub takes-init : goal.takes-init
takes-init c = (takes_none c.args.keys.now c.args.origin.conn c.args.origin.moment c.args.feed.now c.args.counts.now c.args.line.now c.requires.live, refl)

pub takes-preserved : goal.takes-preserved
takes-preserved c =
    let takes = subst (λ (o : Option (Result Message HttpFault)). Takes c.takes.feed (taken o) c.take.new.self) c.in-Some.is c.in_ok-taken.ensures.answer in (
      takes_more c.args.keys.now c.args.origin.conn c.args.origin.moment c.args.feed.now c.takes.feed c.take.new.self c.args.counts.now c.takes.counts _ c.args.line.now c.takes.line c.arrive.new.line (reply_of c.in-Some.request) c.takes.invariant.0 takes refl refl c.in_ok-arrive-in-Some.ensures.ok,
      c.take.ensures.keeps ∙ c.takes.invariant.1,
    )
