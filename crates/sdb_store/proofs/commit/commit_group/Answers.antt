use Rattle.std.proofs.Common.{◌≡◌, IsTrue, length, sym, subst, arith}
use Rattle.sdb_disk.specs.Disk.{Image}
use Rattle.sdb_record.specs.Journals.{IsGroup}
use Rattle.sdb_journal.specs.Appends.{body_of}
use Rattle.sdb_store.specs.Frames.{group_in}
use Rattle.sdb_store.proofs.CommitLemmas.{gate_within, group_stands, group_done, fits_after}
use Rattle.sdb_store.proofs.FrameLemmas.{holds, group_there}
use Rattle.sdb_store.proofs.commit.commit_group.Goals as goal

pub append-requires-clause-least : goal.append-requires-clause-least
append-requires-clause-least g c = let least = (holds c.args.count c.args.frame.now c.requires.frame).least in omega (arith, least, c.write_count.auto.frame)

pub append-requires-clause-most : goal.append-requires-clause-most
append-requires-clause-most g c = let most = (holds c.args.count c.args.frame.now c.requires.frame).most in omega (arith, most, c.write_count.auto.frame)

pub append-requires-clause-within : goal.append-requires-clause-within
append-requires-clause-within g c = gate_within c.args.journal.now (g.D.Disk.state c.args.disk.now) c.requires.fits

pub returns-in-Ok-clause-stands : goal.returns-in-Ok-clause-stands
returns-in-Ok-clause-stands g c told accounts number all small =
    let s = g.D.Disk.state c.args.disk.now in
    let resting = c.requires.fits.rests told in
    let image : Image (g.D.Disk.state c.args.disk.now) (g.D.Disk.state c.args.disk.now).seen = λ k. g.met.D.Disk.may_stay c.args.disk.now k told in
    let is_group = group_there c.args.count c.args.frame.now _ (holds c.args.count c.args.frame.now c.requires.frame) c.write_count.ensures in
    group_stands c.args.journal.now (g.D.Disk.state c.args.disk.now) resting accounts number image (all (g.D.Disk.state c.args.disk.now).seen image) (group_in c.args.count c.args.frame.now)
    (g.D.Disk.state c.append.new.disk) small (c.append.ensures.stands told resting.changes resting.groups (group_in c.args.count c.args.frame.now) resting.at is_group)

pub returns-in-Err-clause-stands : goal.returns-in-Err-clause-stands
returns-in-Err-clause-stands g c told accounts number all small =
    let resting = c.requires.fits.rests told in
    let image : Image (g.D.Disk.state c.args.disk.now) (g.D.Disk.state c.args.disk.now).seen = λ k. g.met.D.Disk.may_stay c.args.disk.now k told in
    let is_group = group_there c.args.count c.args.frame.now _ (holds c.args.count c.args.frame.now c.requires.frame) c.write_count.ensures in
    group_stands c.args.journal.now (g.D.Disk.state c.args.disk.now) resting accounts number image (all (g.D.Disk.state c.args.disk.now).seen image) (group_in c.args.count c.args.frame.now)
    (g.D.Disk.state c.append.new.disk) small (c.append.ensures.stands told resting.changes resting.groups (group_in c.args.count c.args.frame.now) resting.at is_group)

pub returns-in-Ok-clause-done : goal.returns-in-Ok-clause-done
returns-in-Ok-clause-done g c told accounts number all small =
    let resting = c.requires.fits.rests told in
    let image : Image (g.D.Disk.state c.args.disk.now) (g.D.Disk.state c.args.disk.now).seen = λ k. g.met.D.Disk.may_stay c.args.disk.now k told in
    let is_group = group_there c.args.count c.args.frame.now _ (holds c.args.count c.args.frame.now c.requires.frame) c.write_count.ensures in
    group_done c.args.journal.now (g.D.Disk.state c.args.disk.now) resting accounts number image (all (g.D.Disk.state c.args.disk.now).seen image) (group_in c.args.count c.args.frame.now)
    c.append.new.self (g.D.Disk.state c.append.new.disk) small c.in-Ok.ensures.same_journal.0 c.in-Ok.ensures.same_journal.1
    (c.in-Ok.ensures.rests told resting.changes resting.groups (group_in c.args.count c.args.frame.now) resting.at is_group)

pub returns-in-Ok-clause-fits : goal.returns-in-Ok-clause-fits
returns-in-Ok-clause-fits g c = record {
  settled = c.in-Ok.ensures.settled;
  rests = λ still.
      let told = subst IsTrue c.append.ensures.told still in
      let resting = c.requires.fits.rests told in
      let is_group = group_there c.args.count c.args.frame.now _ (holds c.args.count c.args.frame.now c.requires.frame) c.write_count.ensures in
      fits_after c.args.journal.now (g.D.Disk.state c.args.disk.now) resting (group_in c.args.count c.args.frame.now) c.append.new.self (g.D.Disk.state c.append.new.disk)
      (c.in-Ok.ensures.rests told resting.changes resting.groups (group_in c.args.count c.args.frame.now) resting.at is_group);
}
