use Rattle.std.proofs.Common.{◌≡◌, ◌≤◌, ◌<◌, ℕ, IsTrue, inl, sym, subst, arith}
use Rattle.sdb_disk.specs.Disk.{Image}
use Rattle.sdb_record.specs.Stands.{HasSmallItems, StandsFor, IsFirstBad}
use Rattle.sdb_store.proofs.OpenLemmas.{stands_first, leads_too_far, each_stands, rests_first, fits_first, looked_settled, looked_seen, looked_closed, looked_read, same_stand, made_settled, made_own, made_rests, making_stands}
use Rattle.sdb_store.proofs.opening.open_settled.Goals as goal

pub returns-in-Ok-Some-accounts_of-clause-value : goal.returns-in-Ok-Some-accounts_of-clause-value
returns-in-Ok-Some-accounts_of-clause-value g c told =
    let some = rw c.in-Ok-Some-accounts_of.field-0-is at c.in-Ok-Some-accounts_of.ensures.some in
    let small = rw c.in-Ok-Some-accounts_of.field-0-is at c.in-Ok-Some-accounts_of.ensures.small in
    let read = rw c.in-Ok-Some.field-0-is at c.in-Ok-Some.ensures.some in
    subst (λ a. StandsFor a c.in-Ok-Some.journal.sequence (g.D.Disk.state c.args.disk.now).seen) (sym some)
    (stands_first (g.D.Disk.state c.args.disk.now).seen c.in-Ok-Some.journal c.in-Ok-Some.changes (c.in-Ok-Some.ensures.others told) (read told) (subst HasSmallItems some small))

pub returns-in-Ok-Some-accounts_of-clause-fits : goal.returns-in-Ok-Some-accounts_of-clause-fits
returns-in-Ok-Some-accounts_of-clause-fits g c =
    let read = rw c.in-Ok-Some.field-0-is at c.in-Ok-Some.ensures.some in
    let own = rw c.in-Ok-Some.field-0-is at c.in-Ok-Some.ensures.own in
    let looks = c.read_files.ensures.looks in
    fits_first (g.D.Disk.state c.read_files.new.disk) c.in-Ok-Some.journal (looked_settled (g.D.Disk.state c.args.disk.now) (g.D.Disk.state c.read_files.new.disk) looks c.requires) own
    (λ still.
    let told = subst IsTrue looks.same.told still in
    rests_first (g.D.Disk.state c.read_files.new.disk) (looked_settled (g.D.Disk.state c.args.disk.now) (g.D.Disk.state c.read_files.new.disk) looks c.requires) c.in-Ok-Some.journal c.in-Ok-Some.changes
    (looked_closed (g.D.Disk.state c.args.disk.now) (g.D.Disk.state c.read_files.new.disk) looks (c.in-Ok-Some.ensures.others told))
    (looked_read (g.D.Disk.state c.args.disk.now) (g.D.Disk.state c.read_files.new.disk) c.in-Ok-Some.journal c.in-Ok-Some.changes looks (read told)))

pub returns-in-Ok-Some-accounts_of-clause-keeps : goal.returns-in-Ok-Some-accounts_of-clause-keeps
returns-in-Ok-Some-accounts_of-clause-keeps g c told f image =
    let some = rw c.in-Ok-Some-accounts_of.field-0-is at c.in-Ok-Some-accounts_of.ensures.some in
    let small = rw c.in-Ok-Some-accounts_of.field-0-is at c.in-Ok-Some-accounts_of.ensures.small in
    let read = rw c.in-Ok-Some.field-0-is at c.in-Ok-Some.ensures.some in
    let looks = c.read_files.ensures.looks in
    subst (λ a. StandsFor a c.in-Ok-Some.journal.sequence f) (sym some)
    (each_stands (g.D.Disk.state c.read_files.new.disk) (looked_settled (g.D.Disk.state c.args.disk.now) (g.D.Disk.state c.read_files.new.disk) looks c.requires) c.in-Ok-Some.journal c.in-Ok-Some.changes
    (looked_closed (g.D.Disk.state c.args.disk.now) (g.D.Disk.state c.read_files.new.disk) looks (c.in-Ok-Some.ensures.others told))
    (looked_read (g.D.Disk.state c.args.disk.now) (g.D.Disk.state c.read_files.new.disk) c.in-Ok-Some.journal c.in-Ok-Some.changes looks (read told))
    (subst HasSmallItems some small) f image)

pub returns-in-Ok-Some-accounts_of-clause-images : goal.returns-in-Ok-Some-accounts_of-clause-images
returns-in-Ok-Some-accounts_of-clause-images g c told = same_stand (g.D.Disk.state c.args.disk.now) (g.D.Disk.state c.read_files.new.disk) c.read_files.ensures.looks.images

pub returns-in-Ok-None-accounts_of-clause-images : goal.returns-in-Ok-None-accounts_of-clause-images
returns-in-Ok-None-accounts_of-clause-images g c told = same_stand (g.D.Disk.state c.args.disk.now) (g.D.Disk.state c.read_files.new.disk) c.read_files.ensures.looks.images

pub returns-in-Ok-None-accounts_of-clause-refused : goal.returns-in-Ok-None-accounts_of-clause-refused
returns-in-Ok-None-accounts_of-clause-refused g c k is =
    let none = rw c.in-Ok-None-accounts_of.field-0-is at c.in-Ok-None-accounts_of.ensures.none in
    let read = rw c.in-Ok-Some.field-0-is at c.in-Ok-Some.ensures.some in
    let two : 2 ≡ k = cc in (
      omega (arith, two),
      λ told.
          subst (λ j. IsFirstBad j (g.D.Disk.state c.args.disk.now).seen) two
          (leads_too_far (g.D.Disk.state c.args.disk.now).seen c.in-Ok-Some.journal c.in-Ok-Some.changes (c.in-Ok-Some.ensures.others told) (read told) none),
    )

pub returns-in-Ok-Some-clause-images : goal.returns-in-Ok-Some-clause-images
returns-in-Ok-Some-clause-images g c told = same_stand (g.D.Disk.state c.args.disk.now) (g.D.Disk.state c.read_files.new.disk) c.read_files.ensures.looks.images

pub returns-in-Ok-clause-fits : goal.returns-in-Ok-clause-fits
returns-in-Ok-clause-fits g c =
    let looks = c.read_files.ensures.looks in
    let done = c.in-Ok.ensures.done in
    fits_first (g.D.Disk.state c.create.new.disk) c.in-Ok.journal
    (made_settled (g.D.Disk.state c.args.disk.now) (g.D.Disk.state c.read_files.new.disk) (g.D.Disk.state c.create.new.disk) c.in-Ok.journal c.requires looks done)
    (made_own (g.D.Disk.state c.args.disk.now) (g.D.Disk.state c.read_files.new.disk) (g.D.Disk.state c.create.new.disk) c.in-Ok.journal c.requires looks done)
    (λ still.
    let told = subst IsTrue c.create.ensures.told still in
    made_rests (g.D.Disk.state c.args.disk.now) (g.D.Disk.state c.read_files.new.disk) (g.D.Disk.state c.create.new.disk) c.in-Ok.journal c.requires looks done told
    (c.in-Ok-None.ensures.others (subst IsTrue looks.same.told told)))

pub returns-in-Ok-clause-images : goal.returns-in-Ok-clause-images
returns-in-Ok-clause-images g c told =
    let looks = c.read_files.ensures.looks in
    let closed = rw c.in-Ok-None.field-0-is at c.in-Ok-None.ensures.none in
    making_stands (g.D.Disk.state c.args.disk.now) (g.D.Disk.state c.read_files.new.disk) (g.D.Disk.state c.create.new.disk) c.requires looks told
    (g.met.D.Disk.may_stay c.args.disk.now 2 told) (λ k. g.met.D.Disk.may_stay c.args.disk.now k told) (c.in-Ok-None.ensures.others told) (closed told) c.create.ensures.time
    (c.create.ensures.stands (subst IsTrue (sym looks.same.told) told))

pub returns-in-Ok-None-clause-images : goal.returns-in-Ok-None-clause-images
returns-in-Ok-None-clause-images g c told =
    let looks = c.read_files.ensures.looks in
    let closed = rw c.in-Ok-None.field-0-is at c.in-Ok-None.ensures.none in
    making_stands (g.D.Disk.state c.args.disk.now) (g.D.Disk.state c.read_files.new.disk) (g.D.Disk.state c.create.new.disk) c.requires looks told
    (g.met.D.Disk.may_stay c.args.disk.now 2 told) (λ k. g.met.D.Disk.may_stay c.args.disk.now k told) (c.in-Ok-None.ensures.others told) (closed told) c.create.ensures.time
    (c.create.ensures.stands (subst IsTrue (sym looks.same.told) told))

pub returns-clause-images : goal.returns-clause-images
returns-clause-images g c told = same_stand (g.D.Disk.state c.args.disk.now) (g.D.Disk.state c.read_files.new.disk) c.read_files.ensures.looks.images

pub returns-clause-refused : goal.returns-clause-refused
returns-clause-refused g c k is = let refused = c.in-Err.ensures.refused k is in (refused.0, λ told. inl (refused.1 told))

pub returns-in-Ok-None-accounts_of-clause-unwritten : goal.returns-in-Ok-None-accounts_of-clause-unwritten
returns-in-Ok-None-accounts_of-clause-unwritten g c k is = looked_seen (g.D.Disk.state c.args.disk.now) (g.D.Disk.state c.read_files.new.disk) c.read_files.ensures.looks

pub returns-clause-unwritten : goal.returns-clause-unwritten
returns-clause-unwritten g c k is = looked_seen (g.D.Disk.state c.args.disk.now) (g.D.Disk.state c.read_files.new.disk) c.read_files.ensures.looks
