use Rattle.std.proofs.Common.{◌∙◌, IsTrue, sym, subst}
use Rattle.sdb_record.specs.Stands.{IsFirstBad}
use Rattle.sdb_record.proofs.StandsLemmas.{none_is_bad}
use Rattle.sdb_store.proofs.OpenLemmas.{same_stand, seen_still, opened_stand}
use Rattle.sdb_store.proofs.opening.open_files.Goals as goal

pub returns-in-Ok-open_settled-clause-keeps : goal.returns-in-Ok-open_settled-clause-keeps
returns-in-Ok-open_settled-clause-keeps g c told = c.in-Ok-open_settled.ensures.keeps (subst IsTrue (sym c.in-Ok.ensures.synced.told) told)

pub returns-in-Ok-open_settled-clause-images : goal.returns-in-Ok-open_settled-clause-images
returns-in-Ok-open_settled-clause-images g c told =
    opened_stand (g.D.Disk.state c.args.disk.now) (g.D.Disk.state c.sync_all.new.disk) (g.D.Disk.state c.open_settled.new.disk) c.in-Ok.ensures.synced c.open_settled.ensures.time
    (c.open_settled.ensures.images (subst IsTrue (sym c.in-Ok.ensures.synced.told) told))

pub returns-in-Err-open_settled-clause-images : goal.returns-in-Err-open_settled-clause-images
returns-in-Err-open_settled-clause-images g c told =
    opened_stand (g.D.Disk.state c.args.disk.now) (g.D.Disk.state c.sync_all.new.disk) (g.D.Disk.state c.open_settled.new.disk) c.in-Ok.ensures.synced c.open_settled.ensures.time
    (c.open_settled.ensures.images (subst IsTrue (sym c.in-Ok.ensures.synced.told) told))

pub returns-in-Err-open_settled-clause-refused : goal.returns-in-Err-open_settled-clause-refused
returns-in-Err-open_settled-clause-refused g c k is =
    let refused = c.in-Err-open_settled.ensures.refused k is in
    let synced = c.in-Ok.ensures.synced in
    (refused.0, λ told. subst (IsFirstBad k) (seen_still (g.D.Disk.state c.args.disk.now) (g.D.Disk.state c.sync_all.new.disk) synced) (refused.1 (subst IsTrue (sym synced.told) told)))

pub returns-in-Err-open_settled-clause-sure : goal.returns-in-Err-open_settled-clause-sure
returns-in-Err-open_settled-clause-sure g c told accounts number stands k is =
    let refused = c.in-Err-open_settled.ensures.refused k is in
    let synced = c.in-Ok.ensures.synced in
    none_is_bad (g.D.Disk.state c.args.disk.now).seen accounts number k stands
    (subst (IsFirstBad k) (seen_still (g.D.Disk.state c.args.disk.now) (g.D.Disk.state c.sync_all.new.disk) synced) (refused.1 (subst IsTrue (sym synced.told) told)))

pub returns-in-Err-clause-images : goal.returns-in-Err-clause-images
returns-in-Err-clause-images g c told = same_stand (g.D.Disk.state c.args.disk.now) (g.D.Disk.state c.sync_all.new.disk) c.sync_all.ensures.images

pub returns-in-Err-open_settled-clause-unwritten : goal.returns-in-Err-open_settled-clause-unwritten
returns-in-Err-open_settled-clause-unwritten g c k is =
    c.in-Err-open_settled.ensures.unwritten k is ∙ seen_still (g.D.Disk.state c.args.disk.now) (g.D.Disk.state c.sync_all.new.disk) c.in-Ok.ensures.synced
