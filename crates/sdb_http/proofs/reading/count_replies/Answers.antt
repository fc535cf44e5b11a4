use Rattle.std.proofs.Common.{◌≡◌, ◌<◌, length, take, [], Err, Ok, refl, sym, subst, List, ℕ, true, arith, ◌+◌}
use Rattle.sdb_http.proofs.ReadingLemmas.{IsReadTo, after, all_by_close, all_by_last, left_shorter, read_more, read_none}
use Rattle.sdb_http.specs.Messages.{trim}
use Rattle.sdb_http.proofs.reading.count_replies.Goals as goal

pub replies-init : goal.replies-init
replies-init c = read_none c.args.stream.now c.trim-left.result.now c.trim-left.ensures

pub returns-in-Fault : goal.returns-in-Fault
returns-in-Fault c = all_by_last c.args.stream.now c.replies.left.now [] c.replies.count (Err c.in-Fault.field-0) refl c.replies.invariant c.in-Fault.ensures

pub returns-then-layout : goal.returns-then-layout
returns-then-layout c =
    all_by_close c.args.stream.now c.replies.left.now c.replies.count c.in-Whole.last c.in-Whole.layout c.if-layout.true c.replies.invariant c.in-Whole.ensures.0 c.in-Whole.ensures.1

pub replies-preserved : goal.replies-preserved
replies-preserved c =
    subst (λ (rest : List ℕ). IsReadTo c.args.stream.now rest (c.replies.count + 1)) (sym c.rest_after-left.ensures)
    (read_more c.args.stream.now c.replies.left.now c.replies.count c.in-Whole.last c.in-Whole.layout c.if-layout.false c.replies.invariant c.in-Whole.ensures.0 c.in-Whole.ensures.1)

pub replies-smaller : goal.replies-smaller
replies-smaller c = left_shorter c.replies.left.now c.in-Whole.last c.in-Whole.layout c.rest_after-left.result.now c.rest_after-left.ensures c.in-Whole.ensures.1
