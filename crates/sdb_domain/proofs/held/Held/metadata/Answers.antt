use Rattle.std.proofs.Common.{subst}
use Rattle.sdb_domain.specs.Held.{Kept, items_kept}
use Rattle.sdb_domain.specs.Metadata.{Describes}
use Rattle.sdb_domain.proofs.MetadataLemmas.{describes}
use Rattle.sdb_domain.proofs.held.Held.metadata.Goals as goal

pub returns : goal.returns
returns c =
    let kept : Kept = record { rows = c.self.inside.rows; names = c.self.inside.names; sums = c.self.inside.sums } in
    subst (λ (k : Kept). Describes (items_kept k) (record { items = kept.sums.items; item_bytes = kept.sums.item_bytes; names = kept.names.number; name_bytes = kept.names.bytes; pairs = kept.sums.pairs; value_bytes = kept.sums.value_bytes })) c.self.view_is (describes kept c.self.invariant)
