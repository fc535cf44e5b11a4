use Rattle.std.proofs.Common.{◌∙◌, refl, sym, ap, subst, drop, suc, ◌∷◌, drop-cons, add-one, arith}
use Rattle.sdb_domain.specs.Undo.{Covers}
use Rattle.sdb_domain.proofs.EntryViews.{nothing_left}
use Rattle.sdb_domain.proofs.OpenLemmas.{covered_rest, clean_covered}
use Rattle.sdb_domain.proofs.opened.Opened.close.Goals as goal

pub loop-was-init : goal.loop-was-init
loop-was-init c = record { same = refl; covers = subst (Covers c.self.inside.held) (sym c.deref-was-items.ensures.value) c.self.invariant }

pub loop-was-preserved : goal.loop-was-preserved
loop-was-preserved c =
    let inv = c.loop-was.invariant in
    let items = c.deref-was-items.result.now in
    let i = c.loop-was.was-index in
    record {
      same = c.sweep.ensures.same ∙ inv.same;
      covers = rw add-one
          (covered_rest c.loop-was.held c.sweep.new.self c.was-item.result (drop (suc i) items)
          (subst (Covers c.loop-was.held) (drop-cons items i c.was-item.result c.loop-was-test.true ∙ ap (λ w. w ∷ drop (suc i) items) (sym c.was-item.is)) inv.covers)
          c.sweep.ensures.swept);
    }

pub of-requires : goal.of-requires
of-requires c =
    let items = c.deref-was-items.result.now in
    clean_covered c.loop-was.held (drop c.loop-was.was-index items) c.loop-was.invariant.covers (nothing_left items c.loop-was.was-index (omega arith))
