use Rattle.std.proofs.Common.{◌∙◌, ◌||◌, sym, ap, arith}
use Rattle.std.proofs.lemmas.List.Sorted.{list_any-IsPermutation}
use Rattle.std.specs.Ordering.{eq_by_cmp}
use Rattle.sdb_pairs.specs.Pairs.{pair_cmp}
use Rattle.sdb_pairs.proofs.EditLemmas.{among}
use Rattle.std.proofs.lemmas.List.{nil_from_length}
use Rattle.sdb_pairs.proofs.PartLemmas.{rising_with, same_together, put_all}
use Rattle.sdb_pairs.proofs.part.put_in.Goals as goal

pub loop-pair-preserved : goal.loop-pair-preserved
loop-pair-preserved c =
    let inv = c.loop-pair.invariant in
    let p = c.in-Some.pair in
    let rest = c.pop.new.self.items in
    record {
      rises = rising_with c.loop-pair.pairs.items c.put_one.new.pairs.items p inv.rises c.put_one.ensures.items;
      room = omega (arith, c.in-Some.ensures.len, c.put_one.ensures.longer, c.put_one.ensures.capacity);
      same = λ q. same_together c.loop-pair.pairs.items c.put_one.new.pairs.items c.loop-pair.added.items rest p q c.in-Some.ensures.items c.put_one.ensures.items ∙ inv.same q;
    }

pub returns : goal.returns
returns c =
    let added = c.args.added.items in
    put_all c.args.pairs.now.items c.loop-pair.pairs.items added c.loop-pair.added.items c.requires.rising c.loop-pair.invariant.rises (nil_from_length c.loop-pair.added.items (omega (arith, c.in_default.ensures.cases)))
    (λ q. c.loop-pair.invariant.same q ∙ ap (λ b. among q c.args.pairs.now.items || b)
    (sym (list_any-IsPermutation (eq_by_cmp pair_cmp q) added c.reverse.new.self.items c.reverse.ensures.permutation)))
