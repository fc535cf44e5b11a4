use Rattle.std.proofs.Common.{arith}
use Rattle.sdb_reply.specs.Bodies.{body_text}
use Rattle.sdb_reply.proofs.FaultLemmas.{at_ok, refusal-length, row-short}
use Rattle.sdb_reply.proofs.faults.refusal_into.Goals as goal

pub unwrap-requires : goal.unwrap-requires
unfolding body_text
unwrap-requires c =
    c.append_refused.ensures.room (omega (arith, c.requires, row-short c.args.refusal.now, refusal-length c.args.refusal.now c.args.id.now))

pub returns-clause-spare : goal.returns-clause-spare
unfolding body_text
returns-clause-spare c =
    let left = at_ok _ c.append_refused.result _ c.unwrap.ensures c.append_refused.ensures.spare in
    omega (arith, left, row-short c.args.refusal.now, refusal-length c.args.refusal.now c.args.id.now)

pub returns-clause-body : goal.returns-clause-body
unfolding body_text
returns-clause-body c = at_ok _ c.append_refused.result _ c.unwrap.ensures c.append_refused.ensures.ok
