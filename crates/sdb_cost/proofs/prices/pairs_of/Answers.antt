use Rattle.std.proofs.Common.{◌+◌, length, ◌∙◌, ap, arith}
use Rattle.sdb_cost.specs.Units.{capped}
use Rattle.sdb_cost.proofs.CapLemmas.{counted-step, counted-all}
use Rattle.sdb_cost.proofs.prices.pairs_of.Goals as goal

pub loop-item-preserved : goal.loop-item-preserved
loop-item-preserved c = counted-step (λ item. length item.pairs) c.args.items.now c.loop-item.item-index c.loop-item.count c.saturating_add-count.result c.item-item.result c.loop-item-test.true c.item-item.is c.loop-item.invariant (c.saturating_add-count.ensures ∙ ap (λ n. capped (c.loop-item.count + n)) c.len.ensures)

pub returns : goal.returns
returns c = counted-all (λ item. length item.pairs) c.args.items.now c.loop-item.item-index c.loop-item.count (omega arith) c.loop-item.invariant
