use Rattle.std.proofs.Common.{◌≡◌, ◌∙◌, List, ap, map}
use Rattle.std.specs.BTreeMap.{values}
use Rattle.std.proofs.lemmas.Result.{IfOk-weaker}
use Rattle.sdb_base.specs.Pairs.{NamedValues}
use Rattle.sdb_action.specs.Entries.{entries}
use Rattle.sdb_action.proofs.Grouping.{map-same}
use Rattle.sdb_action.proofs.Places.{values_are_entries}
use Rattle.sdb_action.proofs.entries.entries.Goals as goal

pub returns : goal.returns
returns c =
    let all = c.in_ok-entries_by_place.field-0 in
    let named : NamedValues = c.as_slice.result.now in
    IfOk-weaker c.in_order.result (λ (list : List NamedValues). list ≡ values all) (λ (list : List NamedValues). list ≡ entries c.args.kind c.args.params.now)
    (λ list same.
    same
    ∙ values_are_entries c.args.kind (map (λ pair. pair) named) all c.in_order.ensures.ordered c.in_ok-entries_by_place.ensures
    ∙ ap (entries c.args.kind) (map-same named ∙ c.as_slice.ensures))
    c.in_order.ensures.values
