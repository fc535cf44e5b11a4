use Rattle.std.proofs.Common.{◌≡◌, [], refl}
use Rattle.sdb_disk.specs.Disk.{Image}
use Rattle.sdb_store.specs.Frames.{group_in}
use Rattle.sdb_store.proofs.FrameLemmas.{holds, none_pending, empty_is_frame}
use Rattle.sdb_store.proofs.KeptLemmas.{keeps_own, keeps_stood}
use Rattle.sdb_store.proofs.OpenLemmas.{bad_still}
use Rattle.sdb_store.proofs.store.Store.start.Goals as goal

pub invariant_of-result : goal.invariant_of-result
invariant_of-result g c = (empty_is_frame c.in-Ok-empty_frame.frame.items c.in-Ok-empty_frame.ensures, c.in-Ok.ensures.small)

pub returns-in-Ok-empty_frame-clause-pending : goal.returns-in-Ok-empty_frame-clause-pending
returns-in-Ok-empty_frame-clause-pending g c =
    let frame = c.in-Ok-empty_frame.frame.items in
    none_pending 0 frame (holds 0 frame (empty_is_frame frame c.in-Ok-empty_frame.ensures)) refl

pub returns-in-Ok-empty_frame-clause-keeps : goal.returns-in-Ok-empty_frame-clause-keeps
returns-in-Ok-empty_frame-clause-keeps g c told =
    let frame = c.in-Ok-empty_frame.frame.items in
    let none = none_pending 0 frame (holds 0 frame (empty_is_frame frame c.in-Ok-empty_frame.ensures)) refl in
    keeps_own _ (g.D.Disk.state c.open_files.new.disk) none (c.in-Ok.ensures.keeps told)

pub returns-in-Ok-empty_frame-clause-kept : goal.returns-in-Ok-empty_frame-clause-kept
returns-in-Ok-empty_frame-clause-kept g c told accounts number all =
    let frame = c.in-Ok-empty_frame.frame.items in
    let none = none_pending 0 frame (holds 0 frame (empty_is_frame frame c.in-Ok-empty_frame.ensures)) refl in
    let image : Image (g.D.Disk.state c.args.disk.now) (g.D.Disk.state c.args.disk.now).seen = λ k. g.met.D.Disk.may_stay c.args.disk.now k told in
    keeps_stood _ (g.D.Disk.state c.open_files.new.disk) none (c.in-Ok.ensures.keeps told) (g.D.Disk.state c.args.disk.now).seen (c.in-Ok.ensures.value told) accounts number
    (all (g.D.Disk.state c.args.disk.now).seen image)

pub returns-in-Err-clause-bad : goal.returns-in-Err-clause-bad
returns-in-Err-clause-bad g c k is =
    bad_still (g.D.Disk.state c.args.disk.now) (g.D.Disk.state c.open_files.new.disk) k c.open_files.ensures.told (c.in-Err.ensures.unwritten k is) (c.in-Err.ensures.refused k is)
