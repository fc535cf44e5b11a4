use Rattle.std.proofs.Common.{◌≡◌, ◌∙◌, ap, length, drop, arith}
use Rattle.sdb_http.specs.Inside.{seen}
use Rattle.sdb_http.proofs.TakeLemmas.{front_at_rest, rest_by, takes_whole}
use Rattle.sdb_http.proofs.feed.Feed.next.Goals as goal

pub overflow_sub-self : goal.overflow_sub-self
overflow_sub-self c =
    let it = c.self.inside in
    let sized : c.len.result ≡ length it.bytes.items = omega (arith, c.len.ensures, it.bytes.ok.0) in
    let held_is = c.split_at.ensures.back ∙ ap (drop it.front.start) c.as_slice.ensures.value in
    (rest_by it.bytes.items _ it.front.start c.in-Whole.last c.in-Whole.layout.length _ _ c.self.invariant.at_front.start held_is c.in-Whole.ensures.1 c.rest_len-left.ensures sized).less

pub invariant_of-self-in-Whole : goal.invariant_of-self-in-Whole
invariant_of-self-in-Whole c =
    let it = c.self.inside in
    let sized : c.len.result ≡ length it.bytes.items = omega (arith, c.len.ensures, it.bytes.ok.0) in
    let held_is = c.split_at.ensures.back ∙ ap (drop it.front.start) c.as_slice.ensures.value in
    let rest = rest_by it.bytes.items _ it.front.start c.in-Whole.last c.in-Whole.layout.length _ _ c.self.invariant.at_front.start held_is c.in-Whole.ensures.1 c.rest_len-left.ensures sized in
    record { at_front = front_at_rest it.bytes.items _ c.in-Whole.last c.in-Whole.layout.length _ _ sized rest; at_mark = c.self.invariant.at_mark }

pub returns-in_ok-message-in-Whole-clause-answer :
    goal.returns-in_ok-message-in-Whole-clause-answer
returns-in_ok-message-in-Whole-clause-answer c =
    let it = c.self.inside in
    let sized : c.len.result ≡ length it.bytes.items = omega (arith, c.len.ensures, it.bytes.ok.0) in
    let held_is = c.split_at.ensures.back ∙ ap (drop it.front.start) c.as_slice.ensures.value in
    let rest = rest_by it.bytes.items _ it.front.start c.in-Whole.last c.in-Whole.layout.length _ _ c.self.invariant.at_front.start held_is c.in-Whole.ensures.1 c.rest_len-left.ensures sized in
    rw (← c.self.view_is)
    (takes_whole it.bytes.items _ it.front it.mark it.ended c.in-Whole.last c.in-Whole.layout (seen c.in_ok-message-in-Whole.message) _ c.if-self.false c.self.invariant.at_front.trimmed held_is c.in-Whole.ensures.0 c.in-Whole.ensures.1 c.in_ok-message-in-Whole.ensures rest.rest)
