use Rattle.std.proofs.Common.{◌+◌, arith}
use Rattle.std.proofs.Math.ListN.{length-take}
use Rattle.sdb_cli.specs.Standing.{standing}
use Rattle.sdb_cli.proofs.RunsLemmas.{Going-none, Going-more, Ends-limit, Ends-stopped, Ends-finished}
use Rattle.sdb_cli.proofs.bare.answer_input.Goals as goal

pub returns-in-Ok-eq0-clause-ends : goal.returns-in-Ok-eq0-clause-ends
returns-in-Ok-eq0-clause-ends g c =
    Ends-finished c.finish.result c.args.limit (standing c.args.session.now) (standing c.turn.new.session) _ _ _ (g.K.Sink.written c.turn.new.output) _ (c.loop-taken.taken + c.in-Ok-eq0.field-0)
    (Going-more _ _ _ _ _ _ _ _ _ _ _ c.loop-taken.invariant.going c.in-Ok-eq0.ensures.going.1) (omega (arith, c.in-Ok-eq0.field-0-test)) (c.in-Ok-eq0.ensures.going.2 c.in-Ok-eq0.field-0-test) c.finish.ensures.finishes

pub loop-taken-preserved : goal.loop-taken-preserved
loop-taken-preserved g c = record {
  going = Going-more _ _ _ _ _ _ _ _ _ _ _ c.loop-taken.invariant.going c.in-Ok.ensures.going.1;
  within = omega (arith, c.in-Ok.ensures.going.0, c.min-room.ensures, length-take c.min-room.result c.loop-taken.buffer);
  later_read = omega (arith, c.loop-taken.invariant.later_read, c.in-Ok.ensures.later_read);
  later_write = omega (arith, c.loop-taken.invariant.later_write, c.in-Ok.ensures.later_write);
}

pub returns-in-Err-clause-ends : goal.returns-in-Err-clause-ends
returns-in-Err-clause-ends g c =
    Ends-stopped c.in-Err.status c.args.limit _ (standing c.args.session.now) (standing c.loop-taken.session) _ _ _ _ _ _ c.loop-taken.taken
    c.loop-taken.invariant.going c.loop-taken-test.true (omega (arith, c.min-room.ensures, length-take c.min-room.result c.loop-taken.buffer)) c.in-Err.ensures.stops

pub returns-clause-ends : goal.returns-clause-ends
returns-clause-ends g c = Ends-limit c.args.limit _ (standing c.loop-taken.session) _ _ _ _ c.loop-taken.taken c.loop-taken.invariant.going (omega (arith, c.loop-taken.invariant.within))

pub loop-taken-init : goal.loop-taken-init
loop-taken-init g c = record {
  going = Going-none (standing c.args.session.now) (g.T.Source.left c.args.input.now) (g.K.Sink.written c.args.output.now) c.requires.held;
  within = omega arith;
  later_read = omega arith;
  later_write = omega arith;
}
