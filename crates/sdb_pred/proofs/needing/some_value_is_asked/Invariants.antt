use Rattle.std.proofs.Common.{◌≡◌, false, take}
use Rattle.std.specs.List.{list_any}
use Rattle.sdb_parse.specs.Meaning.{asks}
use Rattle.sdb_pred.proofs.needing.some_value_is_asked.Given as goal

abbrev pub invariant-loop-pair : goal.invariant-loop-pair
invariant-loop-pair l = list_any (λ p. list_any (λ e. asks e p.value) l.members) (take l.pair-index l.pairs) ≡ false
