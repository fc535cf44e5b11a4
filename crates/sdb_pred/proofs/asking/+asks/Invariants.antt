use Rattle.std.proofs.Common.{◌≡◌, true, false, take}
use Rattle.std.specs.List.{list_all, list_any}
use Rattle.sdb_parse.specs.Meaning.{asks}
use Rattle.sdb_pred.proofs.asking.+asks.Given as goal

abbrev pub invariant-all_ask-loop-member : goal.invariant-all_ask-loop-member
invariant-all_ask-loop-member l = list_all (λ e. asks e l.value) (take l.member-index l.members) ≡ true

abbrev pub invariant-some_asks-loop-member : goal.invariant-some_asks-loop-member
invariant-some_asks-loop-member l = list_any (λ e. asks e l.value) (take l.member-index l.members) ≡ false
