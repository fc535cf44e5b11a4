use Rattle.std.proofs.Common.{refl, arith}
use Rattle.sdb_journal.specs.Appends.{body_of}
use Rattle.sdb_journal.proofs.RestLemmas.{all_stand_with, rests_after}
use Rattle.sdb_journal.proofs.journal.Journal.append.Goals as goal

pub returns-in_err-append_at-clause-images : goal.returns-in_err-append_at-clause-images
returns-in_err-append_at-clause-images g c = rw (← c.self.view_is) (λ told bodies at. c.append_at.ensures.images told _ bodies refl refl at)

pub returns-clause-images : goal.returns-clause-images
returns-clause-images g c = rw (← c.self.view_is) (λ told bodies at. c.append_at.ensures.images told _ bodies refl refl at)

pub returns-clause-done : goal.returns-clause-done
returns-clause-done g c = rw (← c.self.view_is) (λ told bodies at. c.in_ok-append_at.ensures.done told _ _ bodies refl refl at refl refl (omega arith) refl)

pub returns-in_err-append_at-clause-stands : goal.returns-in_err-append_at-clause-stands
returns-in_err-append_at-clause-stands g c =
    rw (← c.self.view_is) (λ told changes groups group at is_group small small_then.
    all_stand_with _ changes groups group (body_of c.args.frame.now) (g.D.Disk.state c.args.disk.now) at (g.met.D.Disk.may_stay c.args.disk.now _ told) is_group
    (g.D.Disk.state c.append_at.new.disk) small small_then (c.append_at.ensures.images told _ at.rests.has.bodies refl refl at.at))

pub returns-clause-stands : goal.returns-clause-stands
returns-clause-stands g c =
    rw (← c.self.view_is) (λ told changes groups group at is_group small small_then.
    all_stand_with _ changes groups group (body_of c.args.frame.now) (g.D.Disk.state c.args.disk.now) at (g.met.D.Disk.may_stay c.args.disk.now _ told) is_group
    (g.D.Disk.state c.append_at.new.disk) small small_then (c.append_at.ensures.images told _ at.rests.has.bodies refl refl at.at))

pub returns-clause-rests : goal.returns-clause-rests
returns-clause-rests g c =
    rw (← c.self.view_is) (λ told changes groups group at is_group.
    rests_after _ changes groups group (body_of c.args.frame.now) (g.D.Disk.state c.args.disk.now) at (g.met.D.Disk.may_stay c.args.disk.now _ told) is_group
    (g.D.Disk.state c.append_at.new.disk) _ _ (c.in_ok-append_at.ensures.done told _ _ at.rests.has.bodies refl refl at.at refl refl (omega arith) refl))
