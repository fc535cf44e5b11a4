use Rattle.std.proofs.Common.{◌≡◌, ◌∙◌, ap, subst, sym, slice_index_or}
use Rattle.sdb_tables.specs.Faults.{Fault, IsAnswerStatus, fault_of, faults, no_fault, seen}
use Rattle.sdb_tables.proofs.Table.{statuses_answer}
use Rattle.sdb_tables.proofs.faults.fault_row.Goals as goal

pub returns-clause-row : goal.returns-clause-row
unfolding fault_of faults
returns-clause-row c = c.row_in.ensures ∙ ap (λ place. slice_index_or faults place no_fault) c.place_of.ensures.value

pub returns-clause-status : goal.returns-clause-status
unfolding fault_of faults
returns-clause-status c =
    let same : seen c.row_in.result ≡ fault_of c.args.refusal.now =
    c.row_in.ensures ∙ ap (λ place. slice_index_or faults place no_fault) c.place_of.ensures.value in
    subst (λ (row : Fault). IsAnswerStatus row.status) (sym same) (statuses_answer c.args.refusal.now)
