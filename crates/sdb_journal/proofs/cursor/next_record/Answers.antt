use Rattle.std.proofs.Common.{IsTrue, drop, sym, subst}
use Rattle.sdb_journal.specs.Reads.{NoRecords}
use Rattle.sdb_journal.proofs.LookLemmas.{looks_then}
use Rattle.sdb_journal.proofs.cursor.next_record.Goals as goal

pub returns-in-Ok-clause-looks : goal.returns-in-Ok-clause-looks
returns-in-Ok-clause-looks g c =
    looks_then (g.D.Disk.state c.args.disk.now) (g.D.Disk.state c.is_open.new.disk) (g.D.Disk.state c.record_at.new.disk) c.is_open.ensures.looks c.record_at.ensures.looks

pub returns-in-Err-record_at-clause-refused : goal.returns-in-Err-record_at-clause-refused
returns-in-Err-record_at-clause-refused g c k is =
    let refused = c.in-Err-record_at.ensures.refused k is in
    let looks = c.is_open.ensures.looks in
    let there = c.in-Ok-true.ensures.place in
    let same = (looks.same.files c.args.file).seen in
    (refused.0, λ told. subst (NoRecords c.args.sequence) (λ i. drop (there i) (same i)) (refused.1 (subst IsTrue (sym looks.same.told) told)))

pub returns-in-Err-record_at-clause-looks : goal.returns-in-Err-record_at-clause-looks
returns-in-Err-record_at-clause-looks g c =
    looks_then (g.D.Disk.state c.args.disk.now) (g.D.Disk.state c.is_open.new.disk) (g.D.Disk.state c.record_at.new.disk) c.is_open.ensures.looks c.record_at.ensures.looks

pub returns-in-Err-clause-refused : goal.returns-in-Err-clause-refused
returns-in-Err-clause-refused g c k is =
    let refused = c.in-Err.ensures.refused k is in
    (refused.0, λ told. refused.1 told c.args.sequence)
