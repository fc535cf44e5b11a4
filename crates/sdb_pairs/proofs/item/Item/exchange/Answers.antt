use Rattle.std.proofs.Common.{◌≡◌, ◌∙◌, ap, arith, length, List}
use Rattle.sdb_pairs.specs.declared.pair.Pair.{Pair}
use Rattle.sdb_pairs.specs.Parts.{without}
use Rattle.sdb_pairs.proofs.PartLemmas.{rising_out, rising_put, without_shorter}
use Rattle.sdb_pairs.proofs.item.Item.exchange.Goals as goal

pub put_in-requires-clause-rising : goal.put_in-requires-clause-rising
put_in-requires-clause-rising c =
    rising_out c.self.inside.pairs.items c.take_out.new.pairs.items c.deref.result.now c.self.invariant
    (c.take_out.ensures.items ∙ ap (λ (l : List Pair). without l c.deref.result.now) c.reserve-2.ensures.items)

pub put_in-requires-clause-room : goal.put_in-requires-clause-room
put_in-requires-clause-room c =
    let left : c.take_out.new.pairs.items ≡ without c.self.inside.pairs.items c.deref.result.now =
    c.take_out.ensures.items ∙ ap (λ (l : List Pair). without l c.deref.result.now) c.reserve-2.ensures.items in
    let count = ap length left in
    let added = ap length (c.added.view_is ∙ c.in_ok-added.ensures) in
    let put = ap length c.put.view_is in
    omega (arith, count, added, put, without_shorter c.self.inside.pairs.items c.deref.result.now, c.take_out.ensures.capacity, c.in_ok-reserve-2.ensures.ok, c.len-3.ensures, c.in_ok-reserve-2.ensures.len)

pub invariant_of-self-2 : goal.invariant_of-self-2
invariant_of-self-2 c =
    rising_put c.take_out.new.pairs.items c.put_in.new.pairs.items c.added.inside.pairs.items
    (rising_out c.self.inside.pairs.items c.take_out.new.pairs.items c.deref.result.now c.self.invariant
    (c.take_out.ensures.items ∙ ap (λ (l : List Pair). without l c.deref.result.now) c.reserve-2.ensures.items))
    c.put_in.ensures
