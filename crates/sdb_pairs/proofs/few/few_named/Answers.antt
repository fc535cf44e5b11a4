use Rattle.std.proofs.Common.{◌≡◌, ◌-◌, ◌∙◌, sym, ap, subst, arith, drop, length, take, take_all, length-drop}
use Rattle.std.specs.List.Sorted.{IsStrictlySortedBy}
use Rattle.sdb_pairs.specs.Pairs.{pair_cmp, part_named}
use Rattle.sdb_pairs.proofs.FewLemmas.{behind_others, none_named, rising_behind}
use Rattle.sdb_pairs.proofs.few.few_named.Goals as goal

pub front_named-requires-clause-rising : goal.front_named-requires-clause-rising
front_named-requires-clause-rising c =
    let behind = drop c.loop-place.place c.args.pairs.now in
    let whole : take (length c.args.pairs.now - c.loop-place.place) behind ≡ behind = take_all (length c.args.pairs.now - c.loop-place.place) behind (omega (arith, length-drop c.loop-place.place c.args.pairs.now)) in
    subst (IsStrictlySortedBy pair_cmp) (sym whole) (rising_behind c.loop-place.place c.args.pairs.now c.requires)

pub returns-then-eq : goal.returns-then-eq
returns-then-eq c =
    let behind = drop c.loop-place.place c.args.pairs.now in
    let whole : take (length c.args.pairs.now - c.loop-place.place) behind ≡ behind = take_all (length c.args.pairs.now - c.loop-place.place) behind (omega (arith, length-drop c.loop-place.place c.args.pairs.now)) in
    c.front_named.ensures
    ∙ ap (part_named c.args.name.now) whole
    ∙ behind_others c.args.name.now c.args.pairs.now c.loop-place.place (omega (arith, c.loop-place-test.true)) c.loop-place.invariant

pub returns : goal.returns
returns c = none_named c.args.name.now c.args.pairs.now c.loop-place.place c.loop-place-test.false c.loop-place.invariant
