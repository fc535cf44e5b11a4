use Rattle.std.proofs.Common.{◌∙◌, sym, ap, subst, drop, suc, ◌∷◌, drop-cons, add-one}
use Rattle.sdb_domain.specs.Steps.{AreSettledBut}
use Rattle.sdb_domain.proofs.accounts.settle_all.Goals as goal

pub loop-undo-preserved : goal.loop-undo-preserved
loop-undo-preserved c =
    let inv = c.loop-undo.invariant in
    let i = c.loop-undo.undo-index in (
      c.settle_one.ensures.shown ∙ inv.0,
      (λ h.
          rw add-one
          (c.settle_one.ensures.settled (drop (suc i) c.args.log.now)
          (subst (AreSettledBut c.loop-undo.accounts) (drop-cons c.args.log.now i c.undo-item.result c.loop-undo-test.true ∙ ap (λ u. u ∷ drop (suc i) c.args.log.now) (sym c.undo-item.is)) (inv.1 h)))),
      c.settle_one.ensures.size,
    )
