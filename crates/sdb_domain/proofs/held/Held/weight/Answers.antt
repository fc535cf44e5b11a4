use Rattle.std.proofs.Common.{◌∙◌, ap}
use Rattle.sdb_domain.specs.Held.{Kept, items_kept}
use Rattle.sdb_domain.specs.Weights.{domain_weight}
use Rattle.sdb_domain.proofs.ItemSums.{weight_is}
use Rattle.sdb_domain.proofs.held.Held.weight.Goals as goal

pub returns : goal.returns
returns c = weight_is (record { rows = c.self.inside.rows; names = c.self.inside.names; sums = c.self.inside.sums }) c.self.invariant ∙ ap (λ (k : Kept). domain_weight (items_kept k)) c.self.view_is
