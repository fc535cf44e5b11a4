use Rattle.std.proofs.Common.{refl}
use Rattle.sdb_disk.specs.Past.{contents}
use Rattle.sdb_disk.proofs.AnswerLemmas.{still_passes}
use Rattle.sdb_disk.proofs.memory.MemoryDiskDisk.len.Goals as goal

pub returns-then-refused-clause-time : goal.returns-then-refused-clause-time
returns-then-refused-clause-time c =
    let disk = c.args.self.now in
    still_passes (contents disk.files) (contents disk.files) disk.calls.items disk.calls.items disk.faults c.raise.new.faults refl refl

pub returns-clause-time : goal.returns-clause-time
returns-clause-time c =
    let disk = c.args.self.now in
    still_passes (contents disk.files) (contents disk.files) disk.calls.items disk.calls.items disk.faults disk.faults refl refl
