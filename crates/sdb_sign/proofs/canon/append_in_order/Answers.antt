use Rattle.std.proofs.Common.{◌+◌, ◌++◌, filter, drop, sym, ap, ◌∙◌}
use Rattle.sdb_base.specs.Pairs.{NamedValues}
use Rattle.sdb_sign.specs.Canon.{is_signed, left_of}
use Rattle.sdb_sign.proofs.Orders.{drop_more, next_as}
use Rattle.sdb_sign.proofs.canon.append_in_order.Goals as goal

pub loop-place-preserved : goal.loop-place-preserved
loop-place-preserved c =
    let params = c.args.params.now in
    let place = c.loop-place.place in
    let more = filter is_signed (drop (place + 1) params) in
    next_as c.loop-place.text.bytes c.append_next.new.text.bytes c.loop-place.is_first c.in_ok-is_first.is_first c.as_str.result.now c.as_str-in-loop-place.result.now c.at.result.0.now c.at.result.1.now more c.as_str.ensures.value c.as_str-in-loop-place.ensures.value c.in_ok-is_first.ensures
    ∙ (ap (λ (ps : NamedValues). c.loop-place.text.bytes ++ left_of c.loop-place.is_first ps) (sym (drop_more params place (c.at.result.0.now, c.at.result.1.now) c.at.ensures)) ∙ c.loop-place.invariant)
