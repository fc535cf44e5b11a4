use Rattle.std.proofs.Common.{◌∙◌, ap, length}
use Rattle.sdb_domain.specs.Held.{Kept, items_kept}
use Rattle.sdb_domain.proofs.ItemSums.{count_is}
use Rattle.sdb_domain.proofs.held.Held.item_count.Goals as goal

pub returns : goal.returns
returns c = count_is (record { rows = c.self.inside.rows; names = c.self.inside.names; sums = c.self.inside.sums }) c.self.invariant ∙ ap (λ (k : Kept). length (items_kept k)) c.self.view_is
