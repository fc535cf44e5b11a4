use Rattle.std.proofs.Common.{◌≡◌, sym, ap, ◌∙◌, subst, not, filter}
use Rattle.std.specs.List.Sorted.{IsStrictlySortedBy}
use Rattle.sdb_pairs.specs.Pairs.{pair_cmp, pair_eq}
use Rattle.sdb_pairs.proofs.PairLemmas.{dropped_there, dropped_absent, rising_filtered}
use Rattle.sdb_pairs.proofs.item.Item.drop_pair.Goals as goal
use Rattle.sdb_pairs.proofs.item.Item.drop_pair.Goals.{After-drop-remove-in-Ok}

-- the vector after the removal
dropped : (c : After-drop-remove-in-Ok) → c.remove.new.self.items ≡ filter (λ q. not (pair_eq q c.args.pair.now)) c.self.inside.pairs.items
dropped c = c.remove.ensures.items ∙ dropped_there c.args.pair.now c.self.inside.pairs.items c.deref.result.now c.deref.ensures.value c.self.invariant c.in-Ok.place c.in-Ok.ensures.bound c.in-Ok.ensures.ok

pub invariant_of-self : goal.invariant_of-self
invariant_of-self c = subst (IsStrictlySortedBy pair_cmp) (sym (dropped c)) (rising_filtered _ c.self.inside.pairs.items c.self.invariant)

pub returns-in-Ok : goal.returns-in-Ok
returns-in-Ok c = dropped c ∙ ap (filter (λ q. not (pair_eq q c.args.pair.now))) c.self.view_is

pub returns-in_default : goal.returns-in_default
returns-in_default c =
    sym c.self.view_is
    ∙ dropped_absent c.args.pair.now c.self.inside.pairs.items c.deref.result.now c.deref.ensures.value c.self.invariant c.in_default.field-0 c.in_default.ensures.bound c.in_default.ensures.position
    ∙ ap (filter (λ q. not (pair_eq q c.args.pair.now))) c.self.view_is
