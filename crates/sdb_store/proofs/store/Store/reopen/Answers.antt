use Rattle.std.proofs.Common.{◌≡◌, [], IsTrue, refl, sym, ap, subst}
use Rattle.sdb_disk.specs.Disk.{Image}
use Rattle.sdb_journal.specs.Rests.{StandsWith}
use Rattle.sdb_store.proofs.FrameLemmas.{holds, none_pending, empty_is_frame}
use Rattle.sdb_store.proofs.KeptLemmas.{decides, keeps_unsound, reopening_stands, some_stands, now_left}
use Rattle.sdb_store.proofs.OpenLemmas.{bad_still}
use Rattle.sdb_store.proofs.store.Store.reopen.Goals as goal

pub invariant_of-self : goal.invariant_of-self
invariant_of-self g c = (empty_is_frame c.clear.new.frame.items c.clear.ensures, c.in-Ok.ensures.small)

pub returns-in-Ok-clause-kept_ok : goal.returns-in-Ok-clause-kept_ok
returns-in-Ok-clause-kept_ok g c told accounts number undecided keeps =
    let none = none_pending 0 c.clear.new.frame.items (holds 0 c.clear.new.frame.items (empty_is_frame c.clear.new.frame.items c.clear.ensures)) refl in
    let image : Image (g.D.Disk.state c.args.disk.now) (g.D.Disk.state c.args.disk.now).seen = λ k. g.met.D.Disk.may_stay c.args.disk.now k told in
    decides _ (g.D.Disk.state c.open_files.new.disk) none (c.in-Ok.ensures.keeps told) (g.D.Disk.state c.args.disk.now).seen (c.in-Ok.ensures.value told) accounts number undecided
    (keeps.images (g.D.Disk.state c.args.disk.now).seen image)

pub returns-in-Ok-clause-still : goal.returns-in-Ok-clause-still
returns-in-Ok-clause-still g c told =
    c.in-Ok.ensures.keeps told (g.D.Disk.state c.open_files.new.disk).seen (λ k. g.met.D.Disk.may_stay c.open_files.new.disk k (subst IsTrue (sym c.open_files.ensures.told) told))

pub returns-in-Ok-clause-images : goal.returns-in-Ok-clause-images
returns-in-Ok-clause-images g c told accounts number undecided keeps =
    reopening_stands (g.D.Disk.state c.args.disk.now) (g.D.Disk.state c.open_files.new.disk) c.args.self.now accounts number undecided keeps (c.open_files.ensures.images told)

pub returns-in-Ok-clause-ok : goal.returns-in-Ok-clause-ok
returns-in-Ok-clause-ok g c = (refl, none_pending 0 c.clear.new.frame.items (holds 0 c.clear.new.frame.items (empty_is_frame c.clear.new.frame.items c.clear.ensures)) refl)

pub returns-in-Err-clause-kept_err : goal.returns-in-Err-clause-kept_err
returns-in-Err-clause-kept_err g c told accounts number undecided keeps =
    keeps_unsound c.args.self.now _ (g.D.Disk.state c.args.disk.now) (g.D.Disk.state c.open_files.new.disk) accounts number undecided refl (ap (λ v. v.journal) c.self.view_is) keeps.number_is
    (now_left (g.D.Disk.state c.args.disk.now) (g.D.Disk.state c.open_files.new.disk) (StandsWith accounts number undecided) (g.met.D.Disk.counts_now c.open_files.new.disk) c.open_files.ensures.time
    (reopening_stands (g.D.Disk.state c.args.disk.now) (g.D.Disk.state c.open_files.new.disk) c.args.self.now accounts number undecided keeps (c.open_files.ensures.images told)))

pub returns-in-Err-clause-images : goal.returns-in-Err-clause-images
returns-in-Err-clause-images g c told accounts number undecided keeps =
    reopening_stands (g.D.Disk.state c.args.disk.now) (g.D.Disk.state c.open_files.new.disk) c.args.self.now accounts number undecided keeps (c.open_files.ensures.images told)

pub returns-in-Err-clause-sure : goal.returns-in-Err-clause-sure
returns-in-Err-clause-sure g c told accounts number undecided keeps k is =
    let image : Image (g.D.Disk.state c.args.disk.now) (g.D.Disk.state c.args.disk.now).seen = λ k. g.met.D.Disk.may_stay c.args.disk.now k told in
    some_stands accounts number undecided (g.D.Disk.state c.args.disk.now).seen ⊥ (keeps.images (g.D.Disk.state c.args.disk.now).seen image) (λ a n stands. c.in-Err.ensures.sure told a n stands k is)

pub returns-in-Err-clause-bad : goal.returns-in-Err-clause-bad
returns-in-Err-clause-bad g c k is =
    bad_still (g.D.Disk.state c.args.disk.now) (g.D.Disk.state c.open_files.new.disk) k c.open_files.ensures.told (c.in-Err.ensures.unwritten k is) (c.in-Err.ensures.refused k is)
