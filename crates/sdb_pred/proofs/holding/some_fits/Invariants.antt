use Rattle.std.proofs.Common.{◌≡◌, false, take}
use Rattle.std.specs.List.{list_any}
use Rattle.sdb_parse.specs.Fits.{fits}
use Rattle.sdb_pred.proofs.holding.some_fits.Given as goal

abbrev pub invariant-loop-pair : goal.invariant-loop-pair
invariant-loop-pair l = list_any (λ p. fits l.test p.value) (take l.pair-index l.pairs) ≡ false
