use Rattle.sdb_action.proofs.Beginnings.{after_prefix-stripped}
use Rattle.sdb_action.proofs.numbers.after_prefix.Goals as goal

pub returns : goal.returns
returns c = after_prefix-stripped _ _ _ c.strip_prefix.ensures.cases
