use Rattle.std.proofs.Common.{◌^◌, refl}
use Rattle.sdb_disk.specs.Past.{contents}
use Rattle.sdb_disk.proofs.AnswerLemmas.{still_passes, cut_answer, cut_refused, cut_time, small_same}
use Rattle.sdb_disk.proofs.memory.MemoryDiskDisk.cut.Goals as goal

pub returns-then-refused-clause-time : goal.returns-then-refused-clause-time
returns-then-refused-clause-time c =
    let disk = c.args.self.now in
    still_passes (contents disk.files) (contents disk.files) disk.calls.items disk.calls.items disk.faults c.raise.new.faults refl refl

pub invariant_of-self-in-Err : goal.invariant_of-self-in-Err
invariant_of-self-in-Err c = record { small = small_same (contents c.args.self.now.files) (contents c.cut_file.new.files) (2 ^ 62) c.args.self.now.small c.in-Err.ensures.same_files }

pub returns-in-Ok-clause-change : goal.returns-in-Ok-clause-change
returns-in-Ok-clause-change c =
    let disk = c.args.self.now in
    let (was, noted, cuts) = c.in-Ok.ensures.ok in
    cut_answer (contents disk.files) (contents c.cut_file.new.files) disk.calls.items c.cut_file.new.calls.items disk.faults disk.faults
    c.args.file c.args.len was tt (c.requires.within refl) noted cuts

pub returns-in-Ok-clause-time : goal.returns-in-Ok-clause-time
returns-in-Ok-clause-time c =
    let disk = c.args.self.now in
    let (was, noted, cuts) = c.in-Ok.ensures.ok in
    cut_time (contents disk.files) (contents c.cut_file.new.files) disk.calls.items c.cut_file.new.calls.items disk.faults disk.faults
    c.args.file c.args.len was (c.requires.within refl) noted cuts

pub returns-in-Err-clause-change : goal.returns-in-Err-clause-change
returns-in-Err-clause-change c =
    let disk = c.args.self.now in
    cut_refused (contents disk.files) (contents c.cut_file.new.files) disk.calls.items c.cut_file.new.calls.items disk.faults c.raise-in-Err.new.faults
    c.args.file c.args.len c.raise-in-Err.result c.in-Err.ensures.same_files c.in-Err.ensures.same_calls

pub returns-in-Err-clause-time : goal.returns-in-Err-clause-time
returns-in-Err-clause-time c =
    let disk = c.args.self.now in
    still_passes (contents disk.files) (contents c.cut_file.new.files) disk.calls.items c.cut_file.new.calls.items disk.faults c.raise-in-Err.new.faults
    c.in-Err.ensures.same_files c.in-Err.ensures.same_calls
