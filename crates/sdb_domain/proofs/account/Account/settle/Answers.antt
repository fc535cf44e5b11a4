use Rattle.std.proofs.Common.{◌∙◌, sym, ap, length}
use Rattle.std.specs.List.{sum_by}
use Rattle.sdb_domain.specs.Slots.{weight_of_domain}
use Rattle.sdb_domain.proofs.account.Account.settle.Goals as goal

pub invariant_of-self : goal.invariant_of-self
invariant_of-self c = record {
  rise = c.settle.ensures.rises;
  count = c.self.invariant.count ∙ ap length (sym c.settle.ensures.shown);
  weight = c.self.invariant.weight ∙ ap (sum_by weight_of_domain) (sym c.settle.ensures.shown);
}
