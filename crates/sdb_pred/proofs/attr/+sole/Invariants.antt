use Rattle.std.proofs.Common.{◌≡◌, Some, true, take}
use Rattle.std.specs.List.{list_all}
use Rattle.sdb_parse.specs.Meaning.{same_attr, sole}
use Rattle.sdb_pred.proofs.attr.+sole.Given as goal

abbrev pub invariant-common-loop-other : goal.invariant-common-loop-other
invariant-common-loop-other l = list_all (λ e. same_attr (Some l.attr) (sole e)) (take l.other-index l.others) ≡ true
