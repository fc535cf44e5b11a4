use Rattle.std.proofs.Common.{◌≡◌, ◌∙◌, [], IsTrue, refl, sym, ap, subst, arith}
use Rattle.sdb_record.specs.Stands.{HasSmallItems}
use Rattle.sdb_journal.specs.Rests.{StandsWith}
use Rattle.sdb_store.specs.Frames.{group_in}
use Rattle.sdb_store.specs.Kept.{Contents, waiting, number_with}
use Rattle.sdb_store.proofs.CommitLemmas.{some_counts}
use Rattle.sdb_store.proofs.FrameLemmas.{holds, none_pending, some_pending, empty_is_frame}
use Rattle.sdb_store.proofs.KeptLemmas.{keeps_idle, keeps_committed, keeps_unsound, waits_stand, now_left}
use Rattle.sdb_store.proofs.store.Store.commit.Goals as goal

pub returns-then-self-eq0-clause-kept_ok : goal.returns-then-self-eq0-clause-kept_ok
returns-then-self-eq0-clause-kept_ok g c =
    let held = holds c.self.inside.count c.self.inside.frame.items c.self.invariant.0 in
    let none = none_pending c.self.inside.count c.self.inside.frame.items held c.if-self-eq0.true in
    rw (← c.self.view_is) (λ told accounts number keeps. keeps_idle _ (g.D.Disk.state c.args.disk.now) accounts number none keeps)

pub returns-then-self-eq0-clause-sequence : goal.returns-then-self-eq0-clause-sequence
returns-then-self-eq0-clause-sequence g c =
    let held = holds c.self.inside.count c.self.inside.frame.items c.self.invariant.0 in
    let none = none_pending c.self.inside.count c.self.inside.frame.items held c.if-self-eq0.true in
    rw (← c.self.view_is) (sym (ap (λ p. number_with p c.self.inside.journal.sequence) none))

pub returns-then-self-eq0-clause-pending : goal.returns-then-self-eq0-clause-pending
returns-then-self-eq0-clause-pending g c =
    let held = holds c.self.inside.count c.self.inside.frame.items c.self.invariant.0 in
    let none = none_pending c.self.inside.count c.self.inside.frame.items held c.if-self-eq0.true in
    rw (← c.self.view_is) none

pub invariant_of-self : goal.invariant_of-self
invariant_of-self g c = (empty_is_frame c.commit_frame.new.frame.items c.commit_frame.ensures.emptied, c.self.invariant.1)

pub invariant_of-self-in-Err : goal.invariant_of-self-in-Err
invariant_of-self-in-Err g c = (empty_is_frame c.commit_frame.new.frame.items c.commit_frame.ensures.emptied, c.self.invariant.1)

pub returns-in-Ok-clause-kept_ok : goal.returns-in-Ok-clause-kept_ok
returns-in-Ok-clause-kept_ok g c =
    let held = holds c.self.inside.count c.self.inside.frame.items c.self.invariant.0 in
    let some = some_pending c.self.inside.count c.self.inside.frame.items held (omega (arith, c.if-self-eq0.false)) in
    let sound = subst (λ v. IsTrue v.sound) (sym c.self.view_is) c.requires.sound in
    let none = none_pending 0 c.commit_frame.new.frame.items (holds 0 c.commit_frame.new.frame.items (empty_is_frame c.commit_frame.new.frame.items c.commit_frame.ensures.emptied)) refl in
    let old : Contents = record { journal = c.self.inside.journal; accounts = c.self.inside.accounts; pending = group_in c.self.inside.count c.self.inside.frame.items; sound = c.self.inside.sound } in
    rw (← c.self.view_is)
    (λ told accounts number keeps.
    keeps_committed old _ (g.D.Disk.state c.commit_frame.new.disk) accounts number some none refl c.in-Ok.ensures.sequence keeps.number_is (keeps.sound sound).1
    (c.in-Ok.ensures.done told accounts number keeps.images (subst HasSmallItems (keeps.sound sound).1 c.self.invariant.1)))

pub returns-in-Ok-clause-images : goal.returns-in-Ok-clause-images
returns-in-Ok-clause-images g c =
    let held = holds c.self.inside.count c.self.inside.frame.items c.self.invariant.0 in
    let some = some_pending c.self.inside.count c.self.inside.frame.items held (omega (arith, c.if-self-eq0.false)) in
    let sound = subst (λ v. IsTrue v.sound) (sym c.self.view_is) c.requires.sound in
    rw (← c.self.view_is)
    (λ told accounts number keeps. (waits_stand (g.D.Disk.state c.args.disk.now) (g.D.Disk.state c.commit_frame.new.disk) accounts number (group_in c.self.inside.count c.self.inside.frame.items) some
    (c.commit_frame.ensures.stands told accounts number keeps.images (subst HasSmallItems (keeps.sound sound).1 c.self.invariant.1))))

pub returns-in-Ok-clause-sequence : goal.returns-in-Ok-clause-sequence
returns-in-Ok-clause-sequence g c =
    let held = holds c.self.inside.count c.self.inside.frame.items c.self.invariant.0 in
    let some = some_pending c.self.inside.count c.self.inside.frame.items held (omega (arith, c.if-self-eq0.false)) in
    rw (← c.self.view_is) (c.in-Ok.ensures.sequence ∙ sym (some_counts (group_in c.self.inside.count c.self.inside.frame.items) c.self.inside.journal.sequence some))

pub returns-in-Ok-clause-pending : goal.returns-in-Ok-clause-pending
returns-in-Ok-clause-pending g c =
    let none = none_pending 0 c.commit_frame.new.frame.items (holds 0 c.commit_frame.new.frame.items (empty_is_frame c.commit_frame.new.frame.items c.commit_frame.ensures.emptied)) refl in
    none

pub returns-in-Ok-clause-idle : goal.returns-in-Ok-clause-idle
returns-in-Ok-clause-idle g c =
    let held = holds c.self.inside.count c.self.inside.frame.items c.self.invariant.0 in
    let some = some_pending c.self.inside.count c.self.inside.frame.items held (omega (arith, c.if-self-eq0.false)) in
    rw (← c.self.view_is) (λ empty. absurd (some empty))

pub returns-in-Err-clause-kept_err : goal.returns-in-Err-clause-kept_err
returns-in-Err-clause-kept_err g c =
    let held = holds c.self.inside.count c.self.inside.frame.items c.self.invariant.0 in
    let some = some_pending c.self.inside.count c.self.inside.frame.items held (omega (arith, c.if-self-eq0.false)) in
    let sound = subst (λ v. IsTrue v.sound) (sym c.self.view_is) c.requires.sound in
    let old : Contents = record { journal = c.self.inside.journal; accounts = c.self.inside.accounts; pending = group_in c.self.inside.count c.self.inside.frame.items; sound = c.self.inside.sound } in
    rw (← c.self.view_is)
    (λ told accounts number keeps.
    keeps_unsound old _ (g.D.Disk.state c.args.disk.now) (g.D.Disk.state c.commit_frame.new.disk) accounts number (waiting (group_in c.self.inside.count c.self.inside.frame.items)) refl c.in-Err.ensures.kept keeps.number_is
    (now_left (g.D.Disk.state c.args.disk.now) (g.D.Disk.state c.commit_frame.new.disk) (StandsWith accounts number (waiting (group_in c.self.inside.count c.self.inside.frame.items))) (g.met.D.Disk.counts_now c.commit_frame.new.disk) c.commit_frame.ensures.time
    (waits_stand (g.D.Disk.state c.args.disk.now) (g.D.Disk.state c.commit_frame.new.disk) accounts number (group_in c.self.inside.count c.self.inside.frame.items) some
    (c.commit_frame.ensures.stands told accounts number keeps.images (subst HasSmallItems (keeps.sound sound).1 c.self.invariant.1)))))

pub returns-in-Err-clause-images : goal.returns-in-Err-clause-images
returns-in-Err-clause-images g c =
    let held = holds c.self.inside.count c.self.inside.frame.items c.self.invariant.0 in
    let some = some_pending c.self.inside.count c.self.inside.frame.items held (omega (arith, c.if-self-eq0.false)) in
    let sound = subst (λ v. IsTrue v.sound) (sym c.self.view_is) c.requires.sound in
    rw (← c.self.view_is)
    (λ told accounts number keeps. (waits_stand (g.D.Disk.state c.args.disk.now) (g.D.Disk.state c.commit_frame.new.disk) accounts number (group_in c.self.inside.count c.self.inside.frame.items) some
    (c.commit_frame.ensures.stands told accounts number keeps.images (subst HasSmallItems (keeps.sound sound).1 c.self.invariant.1))))

pub returns-in-Err-clause-pending : goal.returns-in-Err-clause-pending
returns-in-Err-clause-pending g c =
    let none = none_pending 0 c.commit_frame.new.frame.items (holds 0 c.commit_frame.new.frame.items (empty_is_frame c.commit_frame.new.frame.items c.commit_frame.ensures.emptied)) refl in
    none

pub returns-in-Err-clause-idle : goal.returns-in-Err-clause-idle
returns-in-Err-clause-idle g c =
    let held = holds c.self.inside.count c.self.inside.frame.items c.self.invariant.0 in
    let some = some_pending c.self.inside.count c.self.inside.frame.items held (omega (arith, c.if-self-eq0.false)) in
    rw (← c.self.view_is) (λ empty. absurd (some empty))
