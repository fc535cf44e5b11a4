use Rattle.std.proofs.Common.{◌≡◌, ◌<◌, suc, refl, ◌∙◌, sym, ap, ◌∷◌, ◌-◌, ◌+◌, length, drop, drop-cons, get_or, arith}
use Rattle.std.proofs.lemmas.List.{drop_all}
use Rattle.sdb_pairs.specs.Parts.{without}
use Rattle.sdb_pairs.proofs.PartLemmas.{without_none, without_more, rising_without}
use Rattle.sdb_pairs.proofs.part.take_out.Goals as goal

pub loop-taken-init : goal.loop-taken-init
loop-taken-init c = record { rises = c.requires; items = without_none c.args.pairs.now.items ∙ ap (without c.args.pairs.now.items) (sym (drop_all _ c.args.out.now (omega arith))); capacity = refl }

pub loop-taken-preserved : goal.loop-taken-preserved
loop-taken-preserved c =
    let inv = c.loop-taken.invariant in
    let all = c.args.pairs.now.items in
    let out = c.args.out.now in
    let left = length out - c.loop-taken.taken in
    let place = length out - 1 - c.loop-taken.taken in
    let p = c.index-out-out.result in
    let behind : left ≡ suc place = omega (arith, c.loop-taken-test.true) in
    let within : place < length out = omega (arith, c.loop-taken-test.true) in
    let here : place ≡ length out - (c.loop-taken.taken + 1) = omega (arith, c.loop-taken-test.true) in
    record {
      rises = rising_without c.loop-taken.pairs.items c.take_one.new.pairs.items p inv.rises c.take_one.ensures.items;
      items = without_more all c.loop-taken.pairs.items c.take_one.new.pairs.items (drop left out) p c.requires inv.items c.take_one.ensures.items
          ∙ ap (without all) (ap (λ x. x ∷ drop left out) c.index-out-out.is ∙ ap (λ k. get_or out place p ∷ drop k out) behind ∙ sym (drop-cons out place p within) ∙ ap (λ k. drop k out) here);
      capacity = c.take_one.ensures.capacity ∙ inv.capacity;
    }
