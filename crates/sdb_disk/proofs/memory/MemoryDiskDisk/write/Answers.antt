use Rattle.std.proofs.Common.{◌^◌, refl}
use Rattle.sdb_disk.specs.Past.{contents}
use Rattle.sdb_disk.proofs.AnswerLemmas.{still_passes, write_answer, write_refused, write_time, small_same}
use Rattle.sdb_disk.proofs.memory.MemoryDiskDisk.write.Goals as goal

pub returns-then-refused-clause-time : goal.returns-then-refused-clause-time
returns-then-refused-clause-time c =
    let disk = c.args.self.now in
    still_passes (contents disk.files) (contents disk.files) disk.calls.items disk.calls.items disk.faults c.raise.new.faults refl refl

pub invariant_of-self-in-Err : goal.invariant_of-self-in-Err
invariant_of-self-in-Err c = record { small = small_same (contents c.args.self.now.files) (contents c.write_file.new.files) (2 ^ 62) c.args.self.now.small c.in-Err.ensures.same_files }

pub returns-in-Ok-clause-change : goal.returns-in-Ok-clause-change
returns-in-Ok-clause-change c =
    let disk = c.args.self.now in
    let (was, noted, overwrites) = c.in-Ok.ensures.ok in
    write_answer (contents disk.files) (contents c.write_file.new.files) disk.calls.items c.write_file.new.calls.items disk.faults disk.faults
    c.args.file c.args.at c.args.bytes.now was tt (c.requires.within refl) noted overwrites

pub returns-in-Ok-clause-time : goal.returns-in-Ok-clause-time
returns-in-Ok-clause-time c =
    let disk = c.args.self.now in
    let (was, noted, overwrites) = c.in-Ok.ensures.ok in
    write_time (contents disk.files) (contents c.write_file.new.files) disk.calls.items c.write_file.new.calls.items disk.faults disk.faults
    c.args.file c.args.at c.args.bytes.now was (c.requires.within refl) noted overwrites

pub returns-in-Err-clause-change : goal.returns-in-Err-clause-change
returns-in-Err-clause-change c =
    let disk = c.args.self.now in
    write_refused (contents disk.files) (contents c.write_file.new.files) disk.calls.items c.write_file.new.calls.items disk.faults c.raise-in-Err.new.faults
    c.args.file c.args.at c.args.bytes.now c.raise-in-Err.result c.in-Err.ensures.same_files c.in-Err.ensures.same_calls

pub returns-in-Err-clause-time : goal.returns-in-Err-clause-time
returns-in-Err-clause-time c =
    let disk = c.args.self.now in
    still_passes (contents disk.files) (contents c.write_file.new.files) disk.calls.items c.write_file.new.calls.items disk.faults c.raise-in-Err.new.faults
    c.in-Err.ensures.same_files c.in-Err.ensures.same_calls
