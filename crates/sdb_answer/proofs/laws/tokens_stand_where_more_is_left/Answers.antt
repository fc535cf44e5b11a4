use Rattle.sdb_answer.proofs.SelectingLemmas.{token-next}
use Rattle.sdb_answer.proofs.laws.tokens_stand_where_more_is_left.Goals as goal

pub returns : goal.returns
returns c = token-next
