use Rattle.sdb_script.proofs.RequestLemmas.{params-more, params-done}
use Rattle.sdb_script.proofs.request.append_params.Goals as goal

pub loop-name-preserved : goal.loop-name-preserved
loop-name-preserved c =
    params-more _ _ _ c.args.more.now c.loop-name.name-index _ _ _ c.loop-name-test.true c.in_ok-name.ensures c.in_ok-value.ensures c.in_ok-push.ensures.items c.loop-name.invariant

pub returns : goal.returns
returns c = params-done _ _ c.args.more.now c.loop-name.name-index c.loop-name-test.false c.loop-name.invariant
