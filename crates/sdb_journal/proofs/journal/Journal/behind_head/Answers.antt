use Rattle.std.proofs.Common.{◌≡◌, IsTrue, drop, sym, subst, arith}
use Rattle.sdb_journal.specs.Reads.{NoRecords, IsShut}
use Rattle.sdb_journal.proofs.CursorLemmas.{passed_moved, started, bad_records}
use Rattle.sdb_journal.proofs.LookLemmas.{looks_call, looks_then}
use Rattle.sdb_journal.proofs.journal.Journal.behind_head.Goals as goal

pub returns-in-Ok-read_records-clause-value : goal.returns-in-Ok-read_records-clause-value
returns-in-Ok-read_records-clause-value g c told =
    let still = subst IsTrue (sym c.len.ensures.same.told) told in
    let seen = (g.D.Disk.state c.args.disk.now).seen c.args.file in
    let same = (c.len.ensures.same.files c.args.file).seen in
    let gate = sym c.place.ensures.place in
    started c.args.generation c.args.first seen (c.requires.head told) (omega arith) (omega arith) c.in-Ok-read_records.changes c.place.result c.in-Ok-read_records.sequence
    (passed_moved c.args.first c.in-Ok-read_records.changes _ 25 _ c.place.result c.in-Ok-read_records.sequence _ seen c.new-window.ensures.place gate same (c.in-Ok-read_records.ensures.read still))
    (subst IsShut (λ i. drop (gate i) (same i)) (c.in-Ok-read_records.ensures.end still))

pub returns-in-Ok-read_records-clause-looks : goal.returns-in-Ok-read_records-clause-looks
returns-in-Ok-read_records-clause-looks g c =
    looks_then (g.D.Disk.state c.args.disk.now) (g.D.Disk.state c.len.new.self) (g.D.Disk.state c.read_records.new.disk)
    (looks_call (g.D.Disk.state c.args.disk.now) (g.D.Disk.state c.len.new.self) c.len.ensures.same c.len.ensures.time c.len.ensures.cause.later c.len.ensures.syncs) c.read_records.ensures.looks

pub returns-clause-refused : goal.returns-clause-refused
returns-clause-refused g c k is =
    let refused = c.in-Err.ensures.refused k is in
    let start = c.new-window.ensures.place in
    let same = (c.len.ensures.same.files c.args.file).seen in (
      refused.0,
      λ told.
          bad_records c.args.generation c.args.first ((g.D.Disk.state c.args.disk.now).seen c.args.file) (c.requires.head told) (omega arith) (omega arith) c.args.file
          (subst (NoRecords c.args.first) (λ i. drop (start i) (same i)) (refused.1 (subst IsTrue (sym c.len.ensures.same.told) told))),
    )

pub returns-clause-looks : goal.returns-clause-looks
returns-clause-looks g c =
    looks_then (g.D.Disk.state c.args.disk.now) (g.D.Disk.state c.len.new.self) (g.D.Disk.state c.read_records.new.disk)
    (looks_call (g.D.Disk.state c.args.disk.now) (g.D.Disk.state c.len.new.self) c.len.ensures.same c.len.ensures.time c.len.ensures.cause.later c.len.ensures.syncs) c.read_records.ensures.looks
