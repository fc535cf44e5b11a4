use Rattle.sdb_page.proofs.SpotLemmas.{answer-rises}
use Rattle.sdb_page.proofs.laws.answers_rise.Goals as goal

pub returns : goal.returns
returns c = answer-rises
