use Rattle.std.proofs.Common.{◌≡◌, sym, ◌∙◌, subst, filter, not}
use Rattle.std.specs.List.{remove_range}
use Rattle.std.specs.List.Sorted.{IsStrictlySortedBy}
use Rattle.sdb_pairs.specs.Pairs.{pair_cmp, is_named}
use Rattle.sdb_pairs.proofs.PairLemmas.{rising_filtered}
use Rattle.sdb_pairs.proofs.item.Item.drop_name.Goals as goal

pub invariant_of-self : goal.invariant_of-self
invariant_of-self c =
    let kept : c.drop-drain.new.self.0.items ≡ remove_range c.self.inside.pairs.items c.span_of-start.result.0 c.span_of-start.result.1 = c.drop-drain.ensures.items ∙ c.drain.ensures.kept in
    let others : remove_range c.self.inside.pairs.items c.span_of-start.result.0 c.span_of-start.result.1 ≡ filter (λ q. not (is_named c.args.name.now q)) c.self.inside.pairs.items = cc (c.as_slice.ensures.value, c.span_of-start.ensures.others) in
    subst (IsStrictlySortedBy pair_cmp) (sym (kept ∙ others)) (rising_filtered _ c.self.inside.pairs.items c.self.invariant)
