use Rattle.std.proofs.Common.{◌≡◌, true, take}
use Rattle.std.specs.List.{list_all}
use Rattle.sdb_parse.specs.Fits.{fits}
use Rattle.sdb_pred.proofs.holding.all_fit.Given as goal

abbrev pub invariant-loop-pair : goal.invariant-loop-pair
invariant-loop-pair l = list_all (λ p. fits l.test p.value) (take l.pair-index l.pairs) ≡ true
