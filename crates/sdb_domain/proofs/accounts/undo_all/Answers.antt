use Rattle.std.proofs.Common.{◌∙◌, sym, ap, subst}
use Rattle.sdb_domain.specs.Keyed.{unwound}
use Rattle.sdb_domain.specs.Steps.{CanUndoAll, all_undone}
use Rattle.sdb_domain.proofs.EntryViews.{unwound_more}
use Rattle.sdb_domain.proofs.LogLemmas.{can_last, can_front}
use Rattle.sdb_domain.proofs.accounts.undo_all.Goals as goal

pub undo_one-requires-clause-can : goal.undo_one-requires-clause-can
undo_one-requires-clause-can c =
    can_last c.loop-undo.accounts c.pop.new.self.items c.in-Some.undo (subst (CanUndoAll c.loop-undo.accounts) c.in-Some.ensures.items c.loop-undo.invariant.1)

pub loop-undo-preserved : goal.loop-undo-preserved
loop-undo-preserved c =
    let inv = c.loop-undo.invariant in (
      ap (λ s. unwound all_undone s c.pop.new.self.items) c.undo_one.ensures.undone
          ∙ sym (unwound_more all_undone c.loop-undo.accounts c.pop.new.self.items c.in-Some.undo)
          ∙ ap (unwound all_undone c.loop-undo.accounts) (sym c.in-Some.ensures.items)
          ∙ inv.0,
      subst (λ s. CanUndoAll s c.pop.new.self.items) (sym c.undo_one.ensures.undone)
          (can_front c.loop-undo.accounts c.pop.new.self.items c.in-Some.undo (subst (CanUndoAll c.loop-undo.accounts) c.in-Some.ensures.items inv.1)),
      c.undo_one.ensures.size,
    )
