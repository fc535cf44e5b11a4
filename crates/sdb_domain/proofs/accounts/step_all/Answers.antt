use Rattle.std.proofs.Common.{◌∙◌, sym}
use Rattle.std.proofs.lemmas.List.Sums.{fold_more}
use Rattle.sdb_pairs.specs.Changes.{after_change}
use Rattle.sdb_domain.specs.Slots.{accounts_shown}
use Rattle.sdb_domain.proofs.LogLemmas.{more_logs}
use Rattle.sdb_domain.proofs.accounts.step_all.Goals as goal

pub loop-change-preserved : goal.loop-change-preserved
loop-change-preserved c =
    let inv = c.loop-change.invariant in
    let now = c.in_ok-step.ensures in (
      now.ok ∙ (λ i. after_change (inv.0 i) (c.change-item.is i))
          ∙ sym (fold_more after_change (accounts_shown c.args.accounts.now) c.args.changes.now c.loop-change.change-index c.change-item.result c.loop-change-test.true),
      more_logs c.args.accounts.now c.loop-change.accounts c.step.new.accounts c.args.log.now.items c.loop-change.log.items c.step.new.log.items inv.1 now.logs,
      now.logs.size ∙ inv.2,
    )
