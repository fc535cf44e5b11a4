use Rattle.std.proofs.Common.{sym, subst}
use Rattle.std.specs.List.Sorted.{IsStrictlySortedBy}
use Rattle.sdb_pairs.specs.Pairs.{pair_cmp}
use Rattle.sdb_pairs.proofs.PartLemmas.{rising_put}
use Rattle.sdb_pairs.proofs.item.Item.take_back.Goals as goal

pub invariant_of-self : goal.invariant_of-self
invariant_of-self c =
    rising_put c.replace-others.new.dest.items c.put_in.new.pairs.items c.replace-others.result.items
    (subst (λ v. IsStrictlySortedBy pair_cmp v.items) (sym c.replace-others.ensures.after) c.exchange.invariant)
    c.put_in.ensures
