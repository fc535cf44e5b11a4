use Rattle.std.proofs.Common.{◌≡◌, map, true, false, take}
use Rattle.std.specs.List.{list_all, list_any}
use Rattle.sdb_parse.specs.Meaning.{holds, meaning, member_holds, sole}
use Rattle.sdb_pred.specs.Items.{values_in}
use Rattle.sdb_pred.proofs.holding.+holds.Given as goal

abbrev pub invariant-all_hold-loop-member : goal.invariant-all_hold-loop-member
invariant-all_hold-loop-member l = list_all (λ e. holds e l.name (values_in l.item)) (take l.member-index l.members) ≡ true

abbrev pub invariant-all_parts_hold-loop-member : goal.invariant-all_parts_hold-loop-member
invariant-all_parts_hold-loop-member l =
    list_all (λ e. member_holds (map meaning l.members) (sole e) (holds e l.name (values_in l.item)) l.name (values_in l.item)) (take l.member-index l.members) ≡ true

abbrev pub invariant-some_holds-loop-member : goal.invariant-some_holds-loop-member
invariant-some_holds-loop-member l = list_any (λ e. holds e l.name (values_in l.item)) (take l.member-index l.members) ≡ false
