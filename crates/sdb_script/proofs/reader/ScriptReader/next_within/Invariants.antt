use Rattle.std.proofs.Common.{◌+◌, ◌-◌, length}
use Rattle.sdb_script.proofs.ReadingLemmas.{ReadsOn}
use Rattle.sdb_script.proofs.reader.ScriptReader.next_within.Given as goal

abbrev pub invariant-reads : goal.invariant-reads
invariant-reads g l =
    ReadsOn l.fn.self l.self (g.T.Source.left l.fn.input) (g.T.Source.left l.input) l.limit (g.T.Source.faults l.fn.input) (g.T.Source.faults l.input)

abbrev pub decreases-reads : goal.decreases-reads
decreases-reads g l = l.limit - (l.self.at + length l.self.held)
