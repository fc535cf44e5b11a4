use Rattle.std.proofs.Common.{◌∙◌, sym, ap, subst}
use Rattle.sdb_domain.specs.Held.{Kept, items_kept, IsClean}
use Rattle.sdb_domain.proofs.WholeLemmas.{clean_rows}
use Rattle.sdb_domain.proofs.held.Held.items.Goals as goal

pub returns : goal.returns
returns c =
    let kept : Kept = record { rows = c.self.inside.rows; names = c.self.inside.names; sums = c.self.inside.sums } in
    c.range_after.ensures.entries
    ∙ clean_rows kept c.self.invariant (subst IsClean (sym c.self.view_is) c.requires)
    ∙ ap items_kept c.self.view_is
