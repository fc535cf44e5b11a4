use Rattle.std.proofs.Common.{refl}
use Rattle.sdb_record.proofs.RecordLaws.{found_begin, found_fits, found_only, fault_only, front_is, none_is}
use Rattle.sdb_record.proofs.read.read_changes.Goals as goal

pub overflow_sub-size : goal.overflow_sub-size
overflow_sub-size c = found_fits c.args.bytes.now c.in-Ok.rest.now c.in-Ok.changes c.in-Ok.ensures.ok

pub returns-in-Ok-clause-found : goal.returns-in-Ok-clause-found
returns-in-Ok-clause-found c = found_begin c.args.bytes.now c.in-Ok.rest.now c.in-Ok.changes _ c.in-Ok.ensures.ok refl

pub returns-in-Ok-clause-only : goal.returns-in-Ok-clause-only
returns-in-Ok-clause-only c changes rest lawful same = found_only c.args.bytes.now c.in-Ok.rest.now c.in-Ok.changes changes rest c.in-Ok.ensures.ok lawful same

pub returns-in-Err-clause-only : goal.returns-in-Err-clause-only
returns-in-Err-clause-only c changes rest lawful same = fault_only c.in-Err.fault c.args.bytes.now changes rest c.in-Err.ensures.err.0 c.in-Err.ensures.err.1 lawful same

pub returns-in-Err-clause-short : goal.returns-in-Err-clause-short
returns-in-Err-clause-short c is = front_is c.args.bytes.now (c.in-Err.ensures.err.0 is)

pub returns-in-Err-clause-bad : goal.returns-in-Err-clause-bad
returns-in-Err-clause-bad c is = none_is c.args.bytes.now (c.in-Err.ensures.err.1 is)
