use Rattle.std.proofs.Common.{◌∙◌, ap}
use Rattle.sdb_domain.specs.Held.{Kept, items_kept}
use Rattle.sdb_domain.specs.Weights.{pair_count as number_of_pairs}
use Rattle.sdb_domain.proofs.ItemSums.{pairs_is}
use Rattle.sdb_domain.proofs.held.Held.pair_count.Goals as goal

pub returns : goal.returns
returns c = pairs_is (record { rows = c.self.inside.rows; names = c.self.inside.names; sums = c.self.inside.sums }) c.self.invariant ∙ ap (λ (k : Kept). number_of_pairs (items_kept k)) c.self.view_is
