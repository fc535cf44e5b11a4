use Rattle.std.proofs.Common.{Option, subst, List}
use Rattle.sdb_action.specs.declared.request.Expect.{Expect}
use Rattle.sdb_action.specs.declared.request.PutItem.{PutItem}
use Rattle.sdb_action.specs.declared.request.Request.TheVariants.{Put, BatchPut}
use Rattle.sdb_tables.specs.Answers.{Answers}
use Rattle.sdb_write.specs.Changes.{decision}
use Rattle.sdb_write.proofs.decision.decide_counted.Goals as goal

pub returns-in-Put-clause-answer : goal.returns-in-Put-clause-answer
returns-in-Put-clause-answer g c =
    rw c.in-Put.is (subst (λ (e : Option Expect). Answers (decision c.args.accounts.now c.args.account (Put c.in-Put.domain c.in-Put.item e)) c.put.result) c.as_ref.ensures.value c.put.ensures.answer)

pub returns-in-BatchPut-clause-answer : goal.returns-in-BatchPut-clause-answer
returns-in-BatchPut-clause-answer g c =
    rw c.in-BatchPut.is (subst (λ (items : List PutItem). Answers (decision c.args.accounts.now c.args.account (BatchPut c.in-BatchPut.domain items)) c.put_batch.result) c.as_slice.ensures c.put_batch.ensures.answer)
