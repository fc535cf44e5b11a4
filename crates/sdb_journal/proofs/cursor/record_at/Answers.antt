use Rattle.std.proofs.Common.{IsTrue, drop, sym, subst}
use Rattle.sdb_journal.specs.Heads.{HasRecordHead}
use Rattle.sdb_journal.specs.Reads.{NoRecords}
use Rattle.sdb_journal.proofs.LookLemmas.{looks_then}
use Rattle.sdb_journal.proofs.cursor.record_at.Goals as goal

pub returns-in-Ok-body_at-clause-looks : goal.returns-in-Ok-body_at-clause-looks
returns-in-Ok-body_at-clause-looks g c =
    looks_then (g.D.Disk.state c.args.disk.now) (g.D.Disk.state c.size_at.new.disk) (g.D.Disk.state c.body_at.new.disk) c.size_at.ensures.looks c.body_at.ensures.looks

pub returns-in-Err-body_at-clause-refused : goal.returns-in-Err-body_at-clause-refused
returns-in-Err-body_at-clause-refused g c k is =
    let refused = c.in-Err-body_at.ensures.refused k is in
    let looks = c.size_at.ensures.looks in
    let there = c.in-Ok.ensures.place in
    let same = (looks.same.files c.args.file).seen in (
      refused.0,
      λ told.
          subst (NoRecords c.args.sequence) (λ i. drop (there i) (same i))
          (refused.1 (subst IsTrue (sym looks.same.told) told) c.args.sequence
          (subst (HasRecordHead c.args.sequence c.in-Ok.size) (λ i. drop (sym there i) (sym same i)) (c.in-Ok.ensures.head told))),
    )

pub returns-in-Err-body_at-clause-looks : goal.returns-in-Err-body_at-clause-looks
returns-in-Err-body_at-clause-looks g c =
    looks_then (g.D.Disk.state c.args.disk.now) (g.D.Disk.state c.size_at.new.disk) (g.D.Disk.state c.body_at.new.disk) c.size_at.ensures.looks c.body_at.ensures.looks
