use Rattle.std.proofs.Common.{◌∙◌, sym, ap, subst, refl, take, ◌++◌, ◌∷◌, []}
use Rattle.std.proofs.lemmas.List.{take_more}
use Rattle.sdb_domain.specs.declared.names.Names.{Names}
use Rattle.sdb_domain.specs.Names.{SweepsNames}
use Rattle.sdb_domain.proofs.NameLemmas.{sweeps_more}
use Rattle.sdb_domain.proofs.names.Names.sweep.Goals as goal

pub loop-was-preserved : goal.loop-was-preserved
loop-was-preserved c =
    let i = c.loop-was.was-index in
    let log = c.args.log.now in
    let was = c.was-item.result in
    let now : Names = c.loop-was.self in
    let next : Names = record { counts = c.sweep_name.new.counts; number = now.number; bytes = now.bytes } in
    subst (SweepsNames c.args.self.now next) (sym (take_more log i was c.loop-was-test.true ∙ ap (λ w. take i log ++ w ∷ []) (sym c.was-item.is)))
    (sweeps_more c.args.self.now now next (take i log) was c.loop-was.invariant c.sweep_name.ensures.rising c.sweep_name.ensures.swept refl refl)
