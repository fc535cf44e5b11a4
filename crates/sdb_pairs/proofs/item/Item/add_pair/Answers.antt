use Rattle.std.proofs.Common.{◌≡◌, refl, sym, subst}
use Rattle.std.specs.List.Sorted.{IsStrictlySortedBy}
use Rattle.sdb_pairs.specs.Pairs.{pair_cmp, with_pair}
use Rattle.sdb_pairs.proofs.PairLemmas.{added_at, added_there, rising_added}
use Rattle.sdb_pairs.proofs.item.Item.add_pair.Goals as goal

-- the vector after the insertion
added : (c : goal.In_ok-insert) → c.insert.new.self.items ≡ with_pair c.self.inside.pairs.items c.args.pair.now
added c =
    let at = added_at c.args.pair.now c.self.inside.pairs.items c.deref.result.now c.deref.ensures.value c.self.invariant c.in-Err.place c.in-Err.ensures.bound c.in-Err.ensures.position in
    cc (c.in_ok-insert.ensures.items, c.in_ok-added.ensures)

pub invariant_of-self : goal.invariant_of-self
invariant_of-self c = subst (IsStrictlySortedBy pair_cmp) (sym (added c)) (rising_added c.args.pair.now c.self.inside.pairs.items _ refl c.self.invariant 0)

pub returns-in_ok-insert-clause-ok : goal.returns-in_ok-insert-clause-ok
returns-in_ok-insert-clause-ok c = rw (← c.self.view_is) (added c)

pub returns-in_default-clause-ok : goal.returns-in_default-clause-ok
returns-in_default-clause-ok c =
    rw (← c.self.view_is) (added_there c.args.pair.now c.self.inside.pairs.items c.deref.result.now c.deref.ensures.value c.self.invariant c.in_default.field-0 c.in_default.ensures.bound c.in_default.ensures.ok)
