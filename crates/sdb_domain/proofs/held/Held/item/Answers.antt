use Rattle.std.proofs.Common.{◌∙◌, sym, ap, subst}
use Rattle.sdb_base.specs.Texts.{text_cmp}
use Rattle.sdb_base.specs.Entries.{found}
use Rattle.sdb_domain.specs.Held.{Kept, items_kept, IsClean}
use Rattle.sdb_domain.proofs.WholeLemmas.{clean_rows}
use Rattle.sdb_domain.proofs.held.Held.item.Goals as goal

pub returns : goal.returns
returns c =
    let kept : Kept = record { rows = c.self.inside.rows; names = c.self.inside.names; sums = c.self.inside.sums } in
    c.get.ensures.value
    ∙ ap (λ rows. found text_cmp rows c.args.name.now) (clean_rows kept c.self.invariant (subst IsClean (sym c.self.view_is) c.requires))
    ∙ ap (λ (k : Kept). found text_cmp (items_kept k) c.args.name.now) c.self.view_is
