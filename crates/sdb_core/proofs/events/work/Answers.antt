use Rattle.std.proofs.Common.{refl, sym}
use Rattle.sdb_arrivals.specs.Story.{Done, OutOfMemory}
use Rattle.sdb_core.specs.Ledgers.{Ledger}
use Rattle.sdb_core.proofs.EventLemmas.{work_fails, work_keeps}
use Rattle.sdb_core.proofs.events.work.Goals as goal

pub returns-in-Ok-clause-makes : goal.returns-in-Ok-clause-makes
returns-in-Ok-clause-makes g c line items =
    let before = g.D.Disk.state c.args.disk.now in
    work_keeps line items c.args.store.now c.work.new.self before (g.D.Disk.state c.work.new.disk) before.told (sym c.if-not-is_sound.ensures)
    c.work.ensures.keeps c.work.ensures.images Done (λ (l : Ledger). refl) c.in-Ok.ensures.sound c.work.ensures.accounts c.work.ensures.pending

pub returns-in-Err-Disk-clause-makes : goal.returns-in-Err-Disk-clause-makes
returns-in-Err-Disk-clause-makes g c line items =
    let before = g.D.Disk.state c.args.disk.now in
    let failed = c.in-Err-Disk.ensures.fault c.in-Err-Disk.field-0-is in
    work_fails line items c.args.store.now c.work.new.self before (g.D.Disk.state c.work.new.disk) before.told (sym c.if-not-is_sound.ensures)
    c.work.ensures.keeps c.work.ensures.images failed.0 failed.1

pub returns-in-Err-OutOfMemory-clause-makes : goal.returns-in-Err-OutOfMemory-clause-makes
returns-in-Err-OutOfMemory-clause-makes g c line items =
    let before = g.D.Disk.state c.args.disk.now in
    work_keeps line items c.args.store.now c.work.new.self before (g.D.Disk.state c.work.new.disk) before.told (sym c.if-not-is_sound.ensures)
    c.work.ensures.keeps c.work.ensures.images OutOfMemory (λ (l : Ledger). refl) (c.in-Err-OutOfMemory.ensures.memory c.in-Err-OutOfMemory.field-0-is) c.work.ensures.accounts c.work.ensures.pending
