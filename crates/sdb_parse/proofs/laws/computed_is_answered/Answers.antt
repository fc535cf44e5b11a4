use Rattle.sdb_parse.proofs.ComputedLemmas.{parsed-right}
use Rattle.sdb_parse.proofs.laws.computed_is_answered.Goals as goal

pub returns : goal.returns
returns c = parsed-right
