use Rattle.std.proofs.Common.{◌≡◌, Some, not, ◌||◌, false, take}
use Rattle.std.specs.List.{list_all, list_any}
use Rattle.sdb_parse.specs.Meaning.{asks, same_attr, sole}
use Rattle.sdb_pred.proofs.holding.some_value_fits_all.Given as goal

abbrev pub invariant-loop-pair : goal.invariant-loop-pair
invariant-loop-pair l = list_any (λ p. list_all (λ e. not (same_attr (Some l.attr) (sole e)) || asks e p.value) l.members) (take l.pair-index l.pairs) ≡ false
