use Rattle.std.proofs.Common.{◌≡◌, ◌∙◌, sym, false, subst}
use Rattle.sdb_pairs.specs.Pairs.{is_named}
use Rattle.sdb_pairs.proofs.FewLemmas.{all_named, front_is_part, not_true}
use Rattle.sdb_pairs.proofs.few.front_named.Goals as goal

pub returns-then-ne : goal.returns-then-ne
returns-then-ne c =
    front_is_part c.args.name.now c.args.pairs.now c.requires.rising c.requires.first c.loop-place.place c.index-pairs-place.result c.loop-place-test.true c.loop-place.invariant
    (subst (λ x. is_named c.args.name.now x ≡ false) c.index-pairs-place.is (not_true _ (sym c.ne.ensures ∙ c.if-ne.true)))

pub returns : goal.returns
returns c = all_named c.args.name.now c.args.pairs.now c.loop-place.place c.loop-place-test.false c.loop-place.invariant
