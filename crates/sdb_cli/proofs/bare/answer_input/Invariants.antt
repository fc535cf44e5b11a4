use Rattle.std.proofs.Common.{◌≤◌, ◌-◌}
use Rattle.std.specs.declared.option.Option.{Option}
use Rattle.sdb_cli.specs.Standing.{standing}
use Rattle.sdb_cli.specs.Plain.{Standing}
use Rattle.sdb_cli.specs.Runs.{Going}
use Rattle.std.proofs.Common.{ℕ, List}
use Rattle.sdb_cli.proofs.bare.answer_input.Given as goal

-- how far the input is answered, and that no count of faults fell
pub record Answering (start now : Standing) (left rest written all : Option (List ℕ)) (taken limit reads_before reads writes_before writes : ℕ) : Type 0 where
  pub going : Going start now left rest written all taken
  pub within : taken ≤ limit
  pub later_read : reads_before ≤ reads
  pub later_write : writes_before ≤ writes

abbrev pub invariant-loop-taken : goal.invariant-loop-taken
invariant-loop-taken g l = Answering (standing l.fn.session) (standing l.session) (g.T.Source.left l.fn.input) (g.T.Source.left l.input) (g.K.Sink.written l.fn.output) (g.K.Sink.written l.output)
    l.taken l.limit (g.T.Source.faults l.fn.input) (g.T.Source.faults l.input) (g.K.Sink.faults l.fn.output) (g.K.Sink.faults l.output)

abbrev pub decreases-loop-taken : goal.decreases-loop-taken
decreases-loop-taken g l = l.limit - l.taken
