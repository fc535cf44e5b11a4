use Rattle.std.proofs.Common.{IsTrue, sym, subst, arith}
use Rattle.sdb_record.specs.Journals.{IsClosed}
use Rattle.sdb_record.specs.Stands.{BreaksFirst}
use Rattle.sdb_journal.proofs.LookLemmas.{looks_then}
use Rattle.sdb_store.proofs.first.read_files.Goals as goal

pub returns-in-Ok-read_journals-clause-looks : goal.returns-in-Ok-read_journals-clause-looks
returns-in-Ok-read_journals-clause-looks g c =
    looks_then (g.D.Disk.state c.args.disk.now) (g.D.Disk.state c.require_no_checkpoint.new.disk) (g.D.Disk.state c.read_journals.new.disk) c.require_no_checkpoint.ensures.looks c.read_journals.ensures.looks

pub returns-in-Err-read_journals-clause-refused : goal.returns-in-Err-read_journals-clause-refused
returns-in-Err-read_journals-clause-refused g c k is =
    let refused = c.in-Err-read_journals.ensures.refused k is in
    let same = c.require_no_checkpoint.ensures.looks.same in (
      refused.0,
      λ told.
          subst (BreaksFirst k) (λ i j. (same.files j).seen i)
          (refused.1 (subst IsTrue (sym same.told) told) (subst (IsClosed 33) (sym (same.files 0).seen) (c.in-Ok.ensures.first told)) (subst (IsClosed 33) (sym (same.files 1).seen) (c.in-Ok.ensures.second told))),
    )

pub returns-in-Err-read_journals-clause-looks : goal.returns-in-Err-read_journals-clause-looks
returns-in-Err-read_journals-clause-looks g c =
    looks_then (g.D.Disk.state c.args.disk.now) (g.D.Disk.state c.require_no_checkpoint.new.disk) (g.D.Disk.state c.read_journals.new.disk) c.require_no_checkpoint.ensures.looks c.read_journals.ensures.looks

pub returns-in-Err-clause-refused : goal.returns-in-Err-clause-refused
returns-in-Err-clause-refused g c k is = let refused = c.in-Err.ensures.refused k is in (omega (arith, refused.0), refused.1)
