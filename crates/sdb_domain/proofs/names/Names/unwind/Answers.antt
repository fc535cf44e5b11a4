use Rattle.std.proofs.Common.{◌∙◌, sym, ap}
use Rattle.sdb_domain.specs.Names.{name_undone}
use Rattle.sdb_domain.specs.Keyed.{unwound}
use Rattle.sdb_domain.proofs.EntryViews.{unwound_more}
use Rattle.sdb_domain.proofs.names.Names.unwind.Goals as goal

pub loop-was-preserved : goal.loop-was-preserved
loop-was-preserved c =
    ap (λ s. unwound name_undone s c.pop.new.self.items) c.undo.ensures
    ∙ sym (unwound_more name_undone c.loop-was.self c.pop.new.self.items c.in-Some.was)
    ∙ ap (unwound name_undone c.loop-was.self) (sym c.in-Some.ensures.items)
    ∙ c.loop-was.invariant
