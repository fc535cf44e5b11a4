use Rattle.std.proofs.Common.{◌≡◌, length, take}
use Rattle.std.specs.Prelude.{sum_by}
use Rattle.sdb_cost.specs.Units.{capped}
use Rattle.sdb_cost.proofs.prices.pairs_shown.Given as goal

-- what is counted so far
abbrev pub invariant-loop-item : goal.invariant-loop-item
invariant-loop-item l = l.count ≡ capped (sum_by (λ item. length item.pairs) (take l.item-index l.items))
