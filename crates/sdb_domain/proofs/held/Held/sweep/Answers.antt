use Rattle.std.proofs.Common.{◌∙◌, sym, ap, subst, refl}
use Rattle.sdb_domain.specs.Held.{Kept, items_kept}
use Rattle.sdb_domain.specs.Undo.{Sweeps}
use Rattle.sdb_domain.proofs.WholeLemmas.{whole_swept, items_swept, row_swept}
use Rattle.sdb_domain.proofs.held.Held.sweep.Goals as goal

pub invariant_of-self : goal.invariant_of-self
invariant_of-self c =
    let kept : Kept = record { rows = c.self.inside.rows; names = c.self.inside.names; sums = c.self.inside.sums } in
    whole_swept kept c.args.was.now.name c.sweep_row.new.rows c.sweep.new.self c.as_slice.result.now c.self.invariant c.args.was.now.emptied c.sweep_row.ensures c.sweep.ensures

pub returns-clause-same : goal.returns-clause-same
returns-clause-same c =
    let kept : Kept = record { rows = c.self.inside.rows; names = c.self.inside.names; sums = c.self.inside.sums } in
    items_swept kept c.args.was.now.name c.sweep_row.new.rows c.sweep.new.self c.as_slice.result.now c.self.invariant c.args.was.now.emptied c.sweep_row.ensures c.sweep.ensures
    ∙ ap (λ (k : Kept). items_kept k) c.self.view_is

pub returns-clause-swept : goal.returns-clause-swept
returns-clause-swept c =
    let kept : Kept = record { rows = c.self.inside.rows; names = c.self.inside.names; sums = c.self.inside.sums } in
    subst (λ (k : Kept). Sweeps k (record { rows = c.sweep_row.new.rows; names = c.sweep.new.self; sums = kept.sums }) c.args.was.now) c.self.view_is
    (row_swept kept c.args.was.now.name c.sweep_row.new.rows c.sweep.new.self c.as_slice.result.now c.self.invariant c.args.was.now.emptied c.sweep_row.ensures c.sweep.ensures c.args.was.now refl refl (sym c.as_slice.ensures.value))
