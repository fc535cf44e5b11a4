use Rattle.std.proofs.Common.{arith}
use Rattle.sdb_script.proofs.WorkloadLemmas.{turns-more, turns-done}
use Rattle.sdb_script.proofs.workload.append_turns.Goals as goal

pub loop-before-preserved : goal.loop-before-preserved
loop-before-preserved c =
    turns-more _ _ _ _ c.args.many c.loop-before.before c.loop-before.draws.state c.draw_turn-turn.result _ c.loop-before-test.true c.draw_turn-turn.ensures
    c.in_ok-append_request.ensures c.in_ok-append_after.ensures c.loop-before.invariant

pub returns : goal.returns
returns c = turns-done _ _ c.args.many c.loop-before.before c.loop-before.draws.state (omega arith) c.loop-before.invariant
