use Rattle.std.proofs.Common.{ℕ, List, Option, ◌-◌, ◌^◌, ◌≤◌}
use Rattle.sdb_core.specs.Kept.{View}
use Rattle.sdb_disk.specs.Disk.{State}
use Rattle.sdb_script.specs.Reading.{Reading}
use Rattle.sdb_replay.proofs.PlayLemmas.{Playing}
use Rattle.sdb_replay.proofs.playing.play.Given as goal

-- how far the run has come, and that no count of faults fell
pub record Running (first core : View) (start s : State) (left rest written all : Option (List ℕ)) (reading : Reading) (reads_before reads writes_before writes : ℕ) : Type 0 where
  pub playing : Playing first core start s left rest written all reading
  pub later_read : reads_before ≤ reads
  pub later_write : writes_before ≤ writes

abbrev pub invariant-events : goal.invariant-events
invariant-events g l =
    Running l.fn.core l.core (g.D.Disk.state l.fn.disk) (g.D.Disk.state l.disk) (g.T.Source.left l.fn.input) (g.T.Source.left l.input)
    (g.K.Sink.written l.fn.output) (g.K.Sink.written l.output) l.reader
    (g.T.Source.faults l.fn.input) (g.T.Source.faults l.input) (g.K.Sink.faults l.fn.output) (g.K.Sink.faults l.output)

abbrev pub decreases-events : goal.decreases-events
decreases-events g l = 2 ^ 40 - l.reader.at
