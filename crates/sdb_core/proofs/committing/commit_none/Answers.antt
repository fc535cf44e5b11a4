use Rattle.std.proofs.Common.{ap, arith, inl, inr, length-drop, refl}
use Rattle.sdb_arrivals.specs.Story.{Disk, OutOfMemory}
use Rattle.sdb_core.specs.Inside.{hand_of}
use Rattle.sdb_core.specs.Ledgers.{rested}
use Rattle.sdb_core.proofs.CommitLemmas.{again_bad, again_failed, again_found, again_no_memory, holds_given_held}
use Rattle.sdb_core.proofs.FindLemmas.{finds_bad, finds_failed, finds_sound}
use Rattle.sdb_core.proofs.committing.commit_none.Goals as goal

pub returns-in-Ok-clause-makes : goal.returns-in-Ok-clause-makes
returns-in-Ok-clause-makes g c =
    let before = g.D.Disk.state c.args.disk.now in
    let now = g.D.Disk.state c.reopen.new.disk in
    again_found c.args.line.now c.reopen.new.line c.args.store.now c.reopen.new.store before now c.args.items.now c.reopen.new.items before.told c.requires.unsound
    c.release.new.self c.release.ensures c.reopen.ensures.during c.in-Ok.ensures.ok

pub returns-in-Err-Disk-clause-makes : goal.returns-in-Err-Disk-clause-makes
returns-in-Err-Disk-clause-makes g c =
    let before = g.D.Disk.state c.args.disk.now in
    let now = g.D.Disk.state c.reopen.new.disk in
    again_failed c.args.line.now c.refuse_waiting.new.self c.args.store.now c.reopen.new.store before now c.args.items.now c.reopen.new.items before.told c.requires.unsound
    c.release.new.self c.release.ensures c.reopen.ensures.during c.reopen.new.line c.in-Err-Disk.ensures.err c.refuse_waiting.ensures

pub returns-in-Err-Disk-clause-hand : goal.returns-in-Err-Disk-clause-hand
returns-in-Err-Disk-clause-hand g c = omega (arith, c.reopen.ensures.hand, ap hand_of c.release.ensures, ap hand_of c.refuse_waiting.ensures, length-drop 64 c.reopen.new.line.waiting)

pub returns-in-Err-NotAStore-clause-makes : goal.returns-in-Err-NotAStore-clause-makes
returns-in-Err-NotAStore-clause-makes g c =
    let before = g.D.Disk.state c.args.disk.now in
    let now = g.D.Disk.state c.reopen.new.disk in
    again_bad c.args.line.now c.reopen.new.line c.args.store.now c.reopen.new.store before now c.args.items.now c.reopen.new.items before.told c.requires.unsound
    c.release.new.self c.release.ensures c.reopen.ensures.during c.in-Err-NotAStore.file c.in-Err-NotAStore.ensures.err

pub returns-in-Err-NotAStore-clause-sure : goal.returns-in-Err-NotAStore-clause-sure
returns-in-Err-NotAStore-clause-sure g c t o l h k e =
    let before = g.D.Disk.state c.args.disk.now in
    let now = g.D.Disk.state c.reopen.new.disk in
    c.in-Err-NotAStore.ensures.sure t o (rested l)
    (holds_given_held c.args.line.now c.reopen.new.line c.args.store.now c.reopen.new.store before now c.args.items.now c.reopen.new.items before.told c.requires.unsound
    c.release.new.self c.release.ensures c.reopen.ensures.during o l h)
    c.in-Err-NotAStore.file c.in-Err-NotAStore.field-0-is

pub returns-in-Err-OutOfMemory-clause-makes : goal.returns-in-Err-OutOfMemory-clause-makes
returns-in-Err-OutOfMemory-clause-makes g c =
    let before = g.D.Disk.state c.args.disk.now in
    let now = g.D.Disk.state c.reopen.new.disk in
    again_no_memory c.args.line.now c.refuse_waiting-in-Err-OutOfMemory.new.self c.args.store.now c.reopen.new.store before now c.args.items.now c.reopen.new.items before.told c.requires.unsound
    c.release.new.self c.release.ensures c.reopen.ensures.during c.reopen.new.line c.in-Err-OutOfMemory.ensures.err c.refuse_waiting-in-Err-OutOfMemory.ensures

pub returns-in-Err-OutOfMemory-clause-hand : goal.returns-in-Err-OutOfMemory-clause-hand
returns-in-Err-OutOfMemory-clause-hand g c = omega (arith, c.reopen.ensures.hand, ap hand_of c.release.ensures, ap hand_of c.refuse_waiting-in-Err-OutOfMemory.ensures, length-drop 64 c.reopen.new.line.waiting)

pub returns-in-Ok-clause-files : goal.returns-in-Ok-clause-files
returns-in-Ok-clause-files g c =
    finds_sound c.args.store.now c.reopen.new.store (g.D.Disk.state c.args.disk.now) (g.D.Disk.state c.reopen.new.disk) c.in-Ok.ensures.stood c.in-Ok.ensures.still

pub returns-in-Err-Disk-clause-files : goal.returns-in-Err-Disk-clause-files
returns-in-Err-Disk-clause-files g c =
    finds_failed c.args.store.now c.reopen.new.store (g.D.Disk.state c.args.disk.now) (g.D.Disk.state c.reopen.new.disk) c.in-Err-Disk.ensures.err.sound Disk (inl refl)

pub returns-in-Err-NotAStore-clause-files : goal.returns-in-Err-NotAStore-clause-files
returns-in-Err-NotAStore-clause-files g c =
    let file = c.in-Err-NotAStore.file in
    let is = c.in-Err-NotAStore.field-0-is in
    finds_bad c.args.store.now c.reopen.new.store (g.D.Disk.state c.args.disk.now) (g.D.Disk.state c.reopen.new.disk) c.in-Err-NotAStore.ensures.err.sound
    file (c.in-Err-NotAStore.ensures.bad file is) (λ lost. (c.reopen.ensures.told, c.in-Err-NotAStore.ensures.unwritten file is))

pub returns-in-Err-OutOfMemory-clause-files : goal.returns-in-Err-OutOfMemory-clause-files
returns-in-Err-OutOfMemory-clause-files g c =
    finds_failed c.args.store.now c.reopen.new.store (g.D.Disk.state c.args.disk.now) (g.D.Disk.state c.reopen.new.disk) c.in-Err-OutOfMemory.ensures.err.sound OutOfMemory (inr refl)
