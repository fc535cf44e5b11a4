use Rattle.std.proofs.Common.{◌∙◌, sym, arith}
use Rattle.sdb_domain.proofs.EntryViews.{nothing_left}
use Rattle.sdb_domain.proofs.NameLemmas.{past_at, not_true, other_at, whole_part}
use Rattle.sdb_domain.proofs.names.behind_first.Goals as goal

pub returns-then-ne-clause-rest : goal.returns-then-ne-clause-rest
returns-then-ne-clause-rest c =
    whole_part c.loop-place.place c.args.pairs.now
    ∙ past_at c.args.pairs.now c.name_of_first-name.result.now c.loop-place.place c.name_of_first-name.ensures c.requires.rising c.requires.some (omega arith) c.loop-place.invariant
    (λ d lt. other_at c.args.pairs.now c.loop-place.place c.index-pairs-place.result c.name_of_first-name.result.now d lt c.index-pairs-place.is (not_true _ (sym c.ne.ensures ∙ c.if-ne.true)))

pub returns-clause-rest : goal.returns-clause-rest
returns-clause-rest c =
    sym (nothing_left c.args.pairs.now c.loop-place.place (omega arith))
    ∙ past_at c.args.pairs.now c.name_of_first-name.result.now c.loop-place.place c.name_of_first-name.ensures c.requires.rising c.requires.some (omega arith) c.loop-place.invariant
    (λ d lt. absurd (omega arith))
