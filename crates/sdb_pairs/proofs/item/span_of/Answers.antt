use Rattle.std.proofs.Common.{◌≡◌, rules, of_calls, true, false}
use Rattle.std.proofs.lemmas.Fn.{always_returns_same}
use Rattle.std.specs.List.Sorted.{IsPartitionPoint}
use Rattle.sdb_pairs.specs.Pairs.{is_named}
use Rattle.sdb_pairs.proofs.PairLemmas.{is_below, parted_below, parted_named, span_is_part, others_stay}
use Rattle.sdb_pairs.proofs.item.span_of.Goals as goal
use Rattle.sdb_pairs.proofs.item.span_of.Goals.{After-partition_point-count}

first : (c : After-partition_point-count) → IsPartitionPoint (λ p. is_below c.args.name.now p ≡ true) (λ p. is_below c.args.name.now p ≡ false) c.args.pairs.now c.partition_point-start.result
first c = c.partition_point-start.ensures.partitioned (is_below c.args.name.now) (always_returns_same _ _ _ (λ a r f k. search (rules, of_calls))) (parted_below c.args.name.now c.args.pairs.now c.requires)

second : (c : After-partition_point-count) → IsPartitionPoint (λ p. is_named c.args.name.now p ≡ true) (λ p. is_named c.args.name.now p ≡ false) c.split_at.result.1.now c.partition_point-count.result
second c =
    c.partition_point-count.ensures.partitioned (is_named c.args.name.now) (always_returns_same _ _ _ (λ a r f k. search (rules, of_calls)))
    (parted_named c.args.name.now c.args.pairs.now c.requires c.partition_point-start.result c.partition_point-start.ensures.bound (first c) c.split_at.result.1.now c.split_at.ensures.back)

pub returns-clause-part : goal.returns-clause-part
returns-clause-part c = span_is_part c.args.name.now c.args.pairs.now c.requires c.partition_point-start.result c.partition_point-start.ensures.bound (first c) c.split_at.result.1.now c.split_at.ensures.back c.partition_point-count.result c.partition_point-count.ensures.bound (second c)

pub returns-clause-others : goal.returns-clause-others
returns-clause-others c = others_stay c.args.name.now c.args.pairs.now c.requires c.partition_point-start.result c.partition_point-start.ensures.bound (first c) c.split_at.result.1.now c.split_at.ensures.back c.partition_point-count.result c.partition_point-count.ensures.bound (second c)
