use Rattle.std.proofs.Common.{◌≡◌, ◌++◌, ◌+◌, ◌%◌, ℕ, false, IsTrue, List, length, drop, Ok, Err, Result, OnOk, sym, ◌∙◌, subst, arith}
use Rattle.std.specs.Result.{is_err}
use Rattle.sdb_journal.specs.Reads.{NoRecords, IsShut, OneRecord, Passed}
use Rattle.sdb_journal.specs.Windows.{ahead, Shows}
use Rattle.sdb_journal.proofs.CursorLemmas.{passed_none, passed_more, none_after}
use Rattle.sdb_journal.proofs.LookLemmas.{looks_none, looks_then, still, back}
use Rattle.sdb_journal.proofs.cursor.read_records.Goals as goal

given : {T E : Type 0} (r : Result T E) (P : Type 0) → is_err r ≡ false → OnOk r P → P
given (Ok x) P is p = p
given (Err e) P is p = cc

pub records-init : goal.records-init
records-init g c = (
  looks_none (g.D.Disk.state c.args.disk.now) (g.met.D.Disk.counts_now c.args.disk.now) (g.met.D.Disk.only_now c.args.disk.now),
  c.requires.shows,
  λ told.
      subst (λ all. Passed c.args.first all c.args.window.now.place c.args.window.now.place c.args.first (drop c.args.window.now.place ((g.D.Disk.state c.args.disk.now).seen c.args.file))
      (drop c.args.window.now.place ((g.D.Disk.state c.args.disk.now).seen c.args.file))) (sym c.new-all.ensures)
      (passed_none c.args.first c.args.window.now.place (drop c.args.window.now.place ((g.D.Disk.state c.args.disk.now).seen c.args.file))),
)

pub next_record-requires-clause-shows : goal.next_record-requires-clause-shows
next_record-requires-clause-shows g c =
    still (g.D.Disk.state c.args.disk.now) (g.D.Disk.state c.records.disk) c.args.file (λ f. Shows (ahead c.records.window) c.records.window.place c.records.window.left f)
    c.records.invariant.0 c.records.invariant.1

pub returns-then-is_err-clause-cause : goal.returns-then-is_err-clause-cause
returns-then-is_err-clause-cause g c = record {
  later = omega (arith, c.records.invariant.0.faults, c.next_record.ensures.looks.faults);
  failed = λ is. cc;
}

pub returns-then-is_err-clause-looks : goal.returns-then-is_err-clause-looks
returns-then-is_err-clause-looks g c =
    looks_then (g.D.Disk.state c.args.disk.now) (g.D.Disk.state c.records.disk) (g.D.Disk.state c.next_record.new.disk) c.records.invariant.0 c.next_record.ensures.looks

pub records-smaller : goal.records-smaller
records-smaller g c = let less = rw c.in-Ok-Some.field-0-is at c.in-Ok-Some.ensures.less in omega (arith, less)

pub records-preserved : goal.records-preserved
records-preserved g c =
    let some = rw c.in-Ok-Some.field-0-is at c.in-Ok-Some.ensures.some in
    let grown : c.append.new.self ≡ c.records.all ++ c.in-Ok-Some.changes = given c.append.result _ (sym c.is_err.ensures.value ∙ c.if-is_err.false) c.append.ensures.ok in (
      looks_then (g.D.Disk.state c.args.disk.now) (g.D.Disk.state c.records.disk) (g.D.Disk.state c.next_record.new.disk) c.records.invariant.0 c.next_record.ensures.looks,
      back (g.D.Disk.state c.args.disk.now) (g.D.Disk.state c.records.disk) c.args.file (λ f. Shows (ahead c.next_record.new.window) c.next_record.new.window.place c.next_record.new.window.left f)
          c.records.invariant.0 c.in-Ok-Some.ensures.shows,
      λ told.
          subst (λ all. Passed c.args.first all c.args.window.now.place c.next_record.new.window.place ((c.records.sequence + 1) % 18446744073709551616) (drop c.args.window.now.place ((g.D.Disk.state c.args.disk.now).seen c.args.file))
          (drop c.next_record.new.window.place ((g.D.Disk.state c.args.disk.now).seen c.args.file))) (sym grown)
          (passed_more c.args.first c.records.all c.in-Ok-Some.changes c.args.window.now.place c.records.window.place c.next_record.new.window.place c.records.sequence _ _ _ (c.records.invariant.2 told)
          (back (g.D.Disk.state c.args.disk.now) (g.D.Disk.state c.records.disk) c.args.file
          (λ f. OneRecord c.records.sequence c.in-Ok-Some.changes c.records.window.place c.next_record.new.window.place (drop c.records.window.place f) (drop c.next_record.new.window.place f))
          c.records.invariant.0 some told)),
    )

pub returns-in-Ok-None-clause-read : goal.returns-in-Ok-None-clause-read
returns-in-Ok-None-clause-read g c told =
    let there = rw c.in-Ok-None.field-0-is at c.in-Ok-None.ensures.place in
    let seen = (g.D.Disk.state c.args.disk.now).seen c.args.file in
    subst (λ p. Passed c.args.first c.records.all c.args.window.now.place p c.records.sequence (drop c.args.window.now.place seen) (drop p seen)) (sym there) (c.records.invariant.2 told)

pub returns-in-Ok-None-clause-end : goal.returns-in-Ok-None-clause-end
returns-in-Ok-None-clause-end g c told =
    let there = rw c.in-Ok-None.field-0-is at c.in-Ok-None.ensures.place in
    let none = rw c.in-Ok-None.field-0-is at c.in-Ok-None.ensures.none in
    let seen = (g.D.Disk.state c.args.disk.now).seen c.args.file in
    subst (λ p. IsShut (drop p seen)) (sym there)
    (back (g.D.Disk.state c.args.disk.now) (g.D.Disk.state c.records.disk) c.args.file (λ f. IsShut (drop c.records.window.place f)) c.records.invariant.0 none told)

pub returns-in-Ok-None-clause-cause : goal.returns-in-Ok-None-clause-cause
returns-in-Ok-None-clause-cause g c = record { later = omega (arith, c.records.invariant.0.faults, c.next_record.ensures.looks.faults); failed = tt }

pub returns-in-Ok-None-clause-looks : goal.returns-in-Ok-None-clause-looks
returns-in-Ok-None-clause-looks g c =
    looks_then (g.D.Disk.state c.args.disk.now) (g.D.Disk.state c.records.disk) (g.D.Disk.state c.next_record.new.disk) c.records.invariant.0 c.next_record.ensures.looks

pub returns-in-Err-clause-refused : goal.returns-in-Err-clause-refused
returns-in-Err-clause-refused g c k is =
    let refused = c.in-Err.ensures.refused k is in (
      refused.0,
      λ told.
          none_after c.args.first c.records.all c.args.window.now.place c.records.window.place c.records.sequence _ _ (c.records.invariant.2 told)
          (back (g.D.Disk.state c.args.disk.now) (g.D.Disk.state c.records.disk) c.args.file (λ f. NoRecords c.records.sequence (drop c.records.window.place f)) c.records.invariant.0 refused.1 told),
    )

pub returns-in-Err-clause-cause : goal.returns-in-Err-clause-cause
returns-in-Err-clause-cause g c = record {
  later = omega (arith, c.records.invariant.0.faults, c.next_record.ensures.looks.faults);
  failed = λ is. let rose = c.in-Err.ensures.cause.failed is in omega (arith, c.records.invariant.0.faults, rose);
}

pub returns-in-Err-clause-looks : goal.returns-in-Err-clause-looks
returns-in-Err-clause-looks g c =
    looks_then (g.D.Disk.state c.args.disk.now) (g.D.Disk.state c.records.disk) (g.D.Disk.state c.next_record.new.disk) c.records.invariant.0 c.next_record.ensures.looks
