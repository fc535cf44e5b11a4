use Rattle.std.proofs.Common.{◌≡◌, Bor, List, ℕ, Option, Some, option_map, refl, sym, ap, ◌∙◌}
use Rattle.std.specs.List.Sorted.{IsStrictlySortedBy}
use Rattle.sdb_sign.specs.Canon.{after_name}
use Rattle.sdb_sign.proofs.Orders.{rises_more}
use Rattle.sdb_sign.proofs.canon.rises.Goals as goal

pub loop-place-init : goal.loop-place-init
unfolding IsStrictlySortedBy
loop-place-init c = (tt, refl)

pub loop-place-preserved : goal.loop-place-preserved
loop-place-preserved c =
    let param : List ℕ × List ℕ = (c.at.result.0.now, c.at.result.1.now) in
    let last : Option (List ℕ) = option_map (λ (l : Bor (List ℕ)). l.now) c.loop-place.last in
    let next : Option (List ℕ) = option_map (λ (l : Bor (List ℕ)). l.now) c.in-Some.next in
    let is : after_name last param.0 ≡ Some next = ap (after_name last) (sym c.as_str.ensures.value) ∙ sym c.in-Some.ensures in
    rises_more c.args.params.now c.loop-place.place param last next c.at.ensures c.loop-place.invariant.0 c.loop-place.invariant.1 is
