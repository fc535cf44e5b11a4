use Rattle.std.proofs.Common.{refl}
use Rattle.sdb_disk.specs.Past.{contents}
use Rattle.sdb_disk.proofs.AnswerLemmas.{still_passes, sync_answer, sync_time}
use Rattle.sdb_disk.proofs.memory.MemoryDiskDisk.sync.Goals as goal

pub returns-then-refused-clause-time : goal.returns-then-refused-clause-time
returns-then-refused-clause-time c =
    let disk = c.args.self.now in
    still_passes (contents disk.files) (contents disk.files) disk.calls.items disk.calls.items disk.faults c.raise.new.faults refl refl

pub returns-in-Ok-clause-change : goal.returns-in-Ok-clause-change
returns-in-Ok-clause-change c =
    let disk = c.args.self.now in
    sync_answer (contents disk.files) disk.calls.items c.sync_file.new.calls.items disk.faults disk.faults c.args.file c.in-Ok.ensures.ok tt

pub returns-in-Ok-clause-time : goal.returns-in-Ok-clause-time
returns-in-Ok-clause-time c =
    let disk = c.args.self.now in
    sync_time (contents disk.files) disk.calls.items c.sync_file.new.calls.items disk.faults disk.faults c.args.file c.in-Ok.ensures.ok

pub returns-in-Err-clause-time : goal.returns-in-Err-clause-time
returns-in-Err-clause-time c =
    let disk = c.args.self.now in
    still_passes (contents disk.files) (contents disk.files) disk.calls.items c.sync_file.new.calls.items disk.faults c.raise-in-Err.new.faults
    refl c.in-Err.ensures.err
