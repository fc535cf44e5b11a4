use Rattle.std.proofs.Common.{◌∙◌, sym, ap, subst, Some, None}
use Rattle.sdb_domain.specs.Held.{Kept, items_kept, IsClean}
use Rattle.sdb_domain.specs.LookUps.{held_text}
use Rattle.sdb_domain.proofs.ItemSums.{held_as}
use Rattle.sdb_domain.proofs.WholeLemmas.{clean_rows}
use Rattle.sdb_domain.proofs.held.Held.held_name.Goals as goal

pub returns-in_err-held : goal.returns-in_err-held
returns-in_err-held c =
    let kept : Kept = record { rows = c.self.inside.rows; names = c.self.inside.names; sums = c.self.inside.sums } in
    rw c.from_residual.ensures
    (held_as c.self.inside.rows c.args.name.now None c.in_err-held.ensures.value
    ∙ ap (λ rows. held_text rows c.args.name.now) (clean_rows kept c.self.invariant (subst IsClean (sym c.self.view_is) c.requires))
    ∙ ap (λ (k : Kept). held_text (items_kept k) c.args.name.now) c.self.view_is)

pub returns : goal.returns
returns c =
    let kept : Kept = record { rows = c.self.inside.rows; names = c.self.inside.names; sums = c.self.inside.sums } in
    ap Some c.in_ok-held.ensures.key
    ∙ held_as c.self.inside.rows c.args.name.now _ c.in_ok-held.ensures.value
    ∙ ap (λ rows. held_text rows c.args.name.now) (clean_rows kept c.self.invariant (subst IsClean (sym c.self.view_is) c.requires))
    ∙ ap (λ (k : Kept). held_text (items_kept k) c.args.name.now) c.self.view_is
