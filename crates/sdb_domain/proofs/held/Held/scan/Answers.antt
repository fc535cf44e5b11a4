use Rattle.std.proofs.Common.{◌∙◌, sym, ap, subst}
use Rattle.std.specs.Option.{option_copied}
use Rattle.sdb_domain.specs.Held.{Kept, items_kept, IsClean}
use Rattle.sdb_domain.specs.LookUps.{least_after}
use Rattle.sdb_domain.proofs.WholeLemmas.{clean_rows}
use Rattle.sdb_domain.proofs.held.Held.scan.Goals as goal

pub returns : goal.returns
returns c =
    let kept : Kept = record { rows = c.self.inside.rows; names = c.self.inside.names; sums = c.self.inside.sums } in
    let after = option_copied c.args.after in
    c.first_after.ensures.entry
    ∙ ap (λ rows. least_after rows after) (clean_rows kept c.self.invariant (subst IsClean (sym c.self.view_is) c.requires))
    ∙ ap (λ (k : Kept). least_after (items_kept k) after) c.self.view_is
