use Rattle.sdb_answer.proofs.SelectingLemmas.{parsed-answers}
use Rattle.sdb_answer.proofs.selecting.parsed.Goals as goal

pub returns : goal.returns
returns c = parsed-answers c.args.expression.now c.parse.result c.parse.ensures.answer
