use Rattle.std.proofs.Common.{◌≡◌, ◌∙◌, inl, inr, refl, subst}
use Rattle.sdb_arrivals.specs.Queues.{Queues}
use Rattle.sdb_arrivals.specs.Story.{Disk, Done, NotAStore, OutOfMemory}
use Rattle.sdb_core.specs.Inside.{Fills}
use Rattle.sdb_core.specs.Ledgers.{failed}
use Rattle.sdb_core.proofs.CommitLemmas.{commit_done, commit_found, commit_lost, holds_given}
use Rattle.sdb_core.proofs.FillLemmas.{no_both}
use Rattle.sdb_core.proofs.FindLemmas.{finds_again, finds_bad, finds_committed, finds_failed}
use Rattle.sdb_core.proofs.committing.commit_group.Goals as goal

pub returns-in-Ok-clause-makes : goal.returns-in-Ok-clause-makes
returns-in-Ok-clause-makes g c =
    let before = g.D.Disk.state c.args.disk.now in
    let now = g.D.Disk.state c.commit.new.disk in
    commit_done c.args.line.now c.fill.new.line c.args.store.now c.commit.new.self c.fill.new.store before now c.args.items.now c.fill.new.items before.told
    c.requires.sound c.in-Ok.ensures.ok.0 c.in-Ok.ensures.ok.1 c.commit.ensures.pending c.in-Ok.ensures.kept_ok c.commit.ensures.images
    (subst (λ (q : Queues). Fills q c.commit.new.self c.fill.new.line c.fill.new.store c.args.items.now c.fill.new.items) c.release.ensures c.fill.ensures.fills)

pub returns-in-Ok-reopen-clause-makes : goal.returns-in-Ok-reopen-clause-makes
returns-in-Ok-reopen-clause-makes g c =
    let before = g.D.Disk.state c.args.disk.now in
    let between = g.D.Disk.state c.commit.new.disk in
    let now = g.D.Disk.state c.reopen.new.disk in
    commit_found Disk c.args.line.now c.reopen.new.line c.args.store.now c.commit.new.self c.reopen.new.store before between now c.args.items.now c.reopen.new.items before.told
    (λ (e : Disk ≡ Done). cc) c.requires.sound c.in-Err.ensures.err.0 c.in-Err.ensures.kept_err c.commit.ensures.images c.commit.ensures.time.later c.reopen.ensures.time
    between.told c.commit.ensures.told c.refuse_held.new.self c.refuse_held.ensures c.reopen.ensures.during c.in-Ok-reopen.ensures.ok

pub returns-in-Err-Disk-clause-makes : goal.returns-in-Err-Disk-clause-makes
returns-in-Err-Disk-clause-makes g c =
    let before = g.D.Disk.state c.args.disk.now in
    let between = g.D.Disk.state c.commit.new.disk in
    let now = g.D.Disk.state c.reopen.new.disk in
    commit_lost Disk c.args.line.now c.reopen.new.line c.args.store.now c.commit.new.self c.reopen.new.store before between now c.args.items.now c.reopen.new.items before.told
    (λ (e : Disk ≡ Done). cc) c.requires.sound c.in-Err.ensures.err.0 c.in-Err.ensures.kept_err c.commit.ensures.images c.commit.ensures.time.later c.reopen.ensures.time
    between.told c.commit.ensures.told c.refuse_held.new.self c.refuse_held.ensures c.reopen.ensures.during c.in-Err-Disk.ensures.err

pub returns-in-Err-NotAStore-clause-makes : goal.returns-in-Err-NotAStore-clause-makes
returns-in-Err-NotAStore-clause-makes g c =
    let before = g.D.Disk.state c.args.disk.now in
    let between = g.D.Disk.state c.commit.new.disk in
    let now = g.D.Disk.state c.reopen.new.disk in
    commit_lost (NotAStore c.in-Err-NotAStore.file) c.args.line.now c.reopen.new.line c.args.store.now c.commit.new.self c.reopen.new.store before between now c.args.items.now c.reopen.new.items before.told
    (λ (e : NotAStore c.in-Err-NotAStore.file ≡ Done). cc) c.requires.sound c.in-Err.ensures.err.0 c.in-Err.ensures.kept_err c.commit.ensures.images c.commit.ensures.time.later c.reopen.ensures.time
    between.told c.commit.ensures.told c.refuse_held.new.self c.refuse_held.ensures c.reopen.ensures.during c.in-Err-NotAStore.ensures.err

pub returns-in-Err-NotAStore-clause-sure : goal.returns-in-Err-NotAStore-clause-sure
returns-in-Err-NotAStore-clause-sure g c t o l h k e =
    let before = g.D.Disk.state c.args.disk.now in
    let between = g.D.Disk.state c.commit.new.disk in
    let now = g.D.Disk.state c.reopen.new.disk in
    let again = c.commit.ensures.told ∙ t in
    c.in-Err-NotAStore.ensures.sure again o (failed l)
    (holds_given (NotAStore c.in-Err-NotAStore.file) c.args.line.now c.reopen.new.line c.args.store.now c.commit.new.self c.reopen.new.store before between now c.args.items.now c.reopen.new.items before.told
    (λ (e : NotAStore c.in-Err-NotAStore.file ≡ Done). cc) c.requires.sound c.in-Err.ensures.err.0 c.in-Err.ensures.kept_err c.commit.ensures.images c.commit.ensures.time.later c.reopen.ensures.time
    between.told c.commit.ensures.told c.refuse_held.new.self c.refuse_held.ensures c.reopen.ensures.during t o l h)
    c.in-Err-NotAStore.file c.in-Err-NotAStore.field-0-is

pub returns-in-Err-OutOfMemory-clause-makes : goal.returns-in-Err-OutOfMemory-clause-makes
returns-in-Err-OutOfMemory-clause-makes g c =
    let before = g.D.Disk.state c.args.disk.now in
    let between = g.D.Disk.state c.commit.new.disk in
    let now = g.D.Disk.state c.reopen.new.disk in
    commit_lost OutOfMemory c.args.line.now c.reopen.new.line c.args.store.now c.commit.new.self c.reopen.new.store before between now c.args.items.now c.reopen.new.items before.told
    (λ (e : OutOfMemory ≡ Done). cc) c.requires.sound c.in-Err.ensures.err.0 c.in-Err.ensures.kept_err c.commit.ensures.images c.commit.ensures.time.later c.reopen.ensures.time
    between.told c.commit.ensures.told c.refuse_held.new.self c.refuse_held.ensures c.reopen.ensures.during c.in-Err-OutOfMemory.ensures.err

pub returns-in-Ok-clause-files : goal.returns-in-Ok-clause-files
returns-in-Ok-clause-files g c = finds_committed c.args.store.now c.fill.new.store (g.D.Disk.state c.args.disk.now) (g.D.Disk.state c.commit.new.disk) c.requires.sound

pub returns-in-Ok-reopen-clause-files : goal.returns-in-Ok-reopen-clause-files
returns-in-Ok-reopen-clause-files g c =
    finds_again c.args.store.now c.reopen.new.store (g.D.Disk.state c.args.disk.now) (g.D.Disk.state c.reopen.new.disk) c.requires.sound c.in-Ok-reopen.ensures.still

pub returns-in-Err-Disk-clause-files : goal.returns-in-Err-Disk-clause-files
returns-in-Err-Disk-clause-files g c =
    finds_failed c.args.store.now c.reopen.new.store (g.D.Disk.state c.args.disk.now) (g.D.Disk.state c.reopen.new.disk) c.in-Err-Disk.ensures.err.sound Disk (inl refl)

pub returns-in-Err-NotAStore-clause-files : goal.returns-in-Err-NotAStore-clause-files
returns-in-Err-NotAStore-clause-files g c =
    finds_bad c.args.store.now c.reopen.new.store (g.D.Disk.state c.args.disk.now) (g.D.Disk.state c.reopen.new.disk) c.in-Err-NotAStore.ensures.err.sound
    c.in-Err-NotAStore.file (c.in-Err-NotAStore.ensures.bad c.in-Err-NotAStore.file c.in-Err-NotAStore.field-0-is) (λ lost. absurd (no_both c.requires.sound lost))

pub returns-in-Err-OutOfMemory-clause-files : goal.returns-in-Err-OutOfMemory-clause-files
returns-in-Err-OutOfMemory-clause-files g c =
    finds_failed c.args.store.now c.reopen.new.store (g.D.Disk.state c.args.disk.now) (g.D.Disk.state c.reopen.new.disk) c.in-Err-OutOfMemory.ensures.err.sound OutOfMemory (inr refl)
