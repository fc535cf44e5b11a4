use Rattle.std.proofs.Common.{◌≡◌, ⊎_elim, [], sym, ◌∙◌, ap, append-nil, length}
use Rattle.sdb_record.specs.Spelling.{spelling}
use Rattle.sdb_record.specs.declared.fault.RecordFault.TheVariants.{OutOfMemory}
use Rattle.sdb_journal.proofs.record.changes_in.Goals as goal

pub returns-else-size-body-clause-none : goal.returns-else-size-body-clause-none
returns-else-size-body-clause-none c group is =
    c.if-size-body.false
    (c.in-Ok.ensures.found.size_is ∙ ap (λ changes. length (spelling changes)) (c.in-Ok.ensures.only group [] is.lawful (is.body_is ∙ sym (append-nil (spelling group)))) ∙ ap length (sym is.body_is))

pub returns-in-Short : goal.returns-in-Short
returns-in-Short c = record {
  some = tt;
  none = λ group is.
      let memory : c.in-Err.fault ≡ OutOfMemory = c.in-Err.ensures.only group [] is.lawful (is.body_is ∙ sym (append-nil (spelling group))) in
      ⊎_elim (λ short. absurd (cc (memory, short))) (λ bad. absurd (cc (memory, bad))) c.in-Short.is;
}
