use Rattle.std.proofs.Common.{subst}
use Rattle.sdb_domain.specs.Slots.{AccountKept}
use Rattle.sdb_domain.specs.Steps.{SlotsStep, SlotsMove}
use Rattle.sdb_domain.proofs.AccountLemmas.{whole_after}
use Rattle.sdb_domain.proofs.account.Account.step.Goals as goal

pub invariant_of-self-2 : goal.invariant_of-self-2
invariant_of-self-2 c =
    let old : AccountKept = record { slots = c.self.inside.slots; count = c.self.inside.count; weight = c.self.inside.weight } in
    let step : SlotsStep old.slots c.step_slots.new.slots c.args.change.now c.in-Some.moved = subst (SlotsMove old.slots c.step_slots.new.slots c.args.change.now) c.in-Some.is c.in_ok-moved.ensures.ok in
    whole_after old c.step_slots.new.slots c.args.change.now c.in-Some.moved c.self.invariant step c.in-Some-sums_after.count c.in-Some-sums_after.weight c.in-Some-sums_after.ensures.count c.in-Some-sums_after.ensures.weight
