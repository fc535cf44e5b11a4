use Rattle.std.proofs.Common.{◌≡◌, ℕ, ap, ◌∙◌}
use Rattle.sdb_disk.specs.declared.fault.OpenFault.TheVariants as fault
use Rattle.sdb_status.specs.declared.status.Status.TheVariants.{NotAStore}
use Rattle.sdb_check.proofs.check.Goals as goal

-- the file that a status names
same_file : (file k : ℕ) → NotAStore file ≡ NotAStore k → file ≡ k
same_file file k e = cc

pub returns-in-Err-NotAStore-clause-not_a_store : goal.returns-in-Err-NotAStore-clause-not_a_store
returns-in-Err-NotAStore-clause-not_a_store g c = λ k e.
    let named : NotAStore c.in-Err-NotAStore.file ≡ NotAStore k = rw c.in-Err-NotAStore.field-0-is at e in
    c.in-Err-NotAStore.ensures.refused k (c.in-Err-NotAStore.field-0-is ∙ ap fault.NotAStore (same_file _ k named))

pub returns-in-Err-NotAStore-clause-bad : goal.returns-in-Err-NotAStore-clause-bad
returns-in-Err-NotAStore-clause-bad g c = λ k e.
    let named : NotAStore c.in-Err-NotAStore.file ≡ NotAStore k = rw c.in-Err-NotAStore.field-0-is at e in
    c.in-Err-NotAStore.ensures.bad k (c.in-Err-NotAStore.field-0-is ∙ ap fault.NotAStore (same_file _ k named))

pub returns-in-Err-NotAStore-clause-sure : goal.returns-in-Err-NotAStore-clause-sure
returns-in-Err-NotAStore-clause-sure g c = λ told accounts number stands k e. c.in-Err-NotAStore.ensures.sure told accounts number stands _ c.in-Err-NotAStore.field-0-is
