use Rattle.std.proofs.Common.{◌≡◌, ◌-◌, ◌++◌}
use Rattle.sdb_script.specs.Spelled.{script_of}
use Rattle.sdb_script.specs.Workload.{turns}
use Rattle.sdb_script.proofs.workload.append_turns.Given as goal

-- what is appended, and the turns that are left
abbrev pub invariant-loop-before : goal.invariant-loop-before
invariant-loop-before l = l.script.bytes ++ script_of (turns (l.many - l.before) l.before l.draws.state) ≡ l.fn.script.bytes ++ script_of (turns l.many 0 l.seed)
