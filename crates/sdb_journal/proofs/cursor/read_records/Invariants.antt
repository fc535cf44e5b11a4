use Rattle.std.proofs.Common.{◌+◌, IsTrue, length, drop}
use Rattle.sdb_journal.specs.Looks.{Looks}
use Rattle.sdb_journal.specs.Reads.{Passed}
use Rattle.sdb_journal.specs.Windows.{ahead, Shows}
use Rattle.sdb_journal.proofs.cursor.read_records.Given as goal

abbrev pub invariant-records : goal.invariant-records
invariant-records g l =
    Looks (g.D.Disk.state l.fn.disk) (g.D.Disk.state l.disk)
    × (IsTrue (g.D.Disk.state l.fn.disk).told → Shows (ahead l.window) l.window.place l.window.left ((g.D.Disk.state l.fn.disk).seen l.fn.file))
    × (IsTrue (g.D.Disk.state l.fn.disk).told → Passed l.fn.first l.all l.fn.window.place l.window.place l.sequence
    (drop l.fn.window.place ((g.D.Disk.state l.fn.disk).seen l.fn.file)) (drop l.window.place ((g.D.Disk.state l.fn.disk).seen l.fn.file)))

abbrev pub decreases-records : goal.decreases-records
decreases-records g l = length (ahead l.window) + l.window.left
