use Rattle.std.proofs.Common.{◌≡◌, Some, not, ◌||◌, true, take}
use Rattle.std.specs.List.{list_all}
use Rattle.sdb_parse.specs.Meaning.{asks, same_attr, sole}
use Rattle.sdb_pred.proofs.asking.together.Given as goal

abbrev pub invariant-loop-member : goal.invariant-loop-member
invariant-loop-member l = list_all (λ e. not (same_attr (Some l.attr) (sole e)) || asks e l.value) (take l.member-index l.members) ≡ true
