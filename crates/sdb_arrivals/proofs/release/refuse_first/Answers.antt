use Rattle.std.proofs.Common.{◌≡◌, ◌<◌, ◌∷◌, ◌++◌, [], map, ap, ◌∙◌, arith}
use Rattle.std.proofs.lemmas.List.{map-append}
use Rattle.sdb_arrivals.specs.Queues.{Sent, queued_of, sent_of}
use Rattle.sdb_arrivals.specs.Releases.{refused_as}
use Rattle.sdb_arrivals.proofs.ReleasingLemmas.{leaves_one, sends_one}
use Rattle.sdb_arrivals.proofs.release.refuse_first.Goals as goal

pub requests-preserved : goal.requests-preserved
requests-preserved c =
    let was : map queued_of c.requests.waiting.items ≡ c.in-Some.request.queued ∷ map queued_of c.pop_front.new.self.items = ap (map queued_of) c.in-Some.ensures.items in
    let sent : map sent_of c.push_back_reserved.new.self.items ≡ map sent_of c.requests.out.items ++ refused_as c.args.refusal c.in-Some.request.queued ∷ [] =
    ap (map sent_of) c.push_back_reserved.ensures.items ∙ (map-append sent_of c.requests.out.items (c.refused.result ∷ []) ∙ ap (λ (s : Sent). map sent_of c.requests.out.items ++ s ∷ []) c.refused.ensures) in
    let some : 0 < c.requests.left = c.requests-test.true in
    record {
      sent = sends_one (refused_as c.args.refusal) c.requests.left c.in-Some.request.queued (map queued_of c.pop_front.new.self.items) (map queued_of c.requests.waiting.items) (map sent_of c.requests.out.items) (map sent_of c.push_back_reserved.new.self.items) some was sent ∙ c.requests.invariant.sent;
      rest = leaves_one c.requests.left c.in-Some.request.queued (map queued_of c.pop_front.new.self.items) (map queued_of c.requests.waiting.items) some was ∙ c.requests.invariant.rest;
      len = omega (arith, c.in-Some.ensures.cases);
      places = c.push_back_reserved.ensures.capacity ∙ c.requests.invariant.places;
    }
