use Rattle.std.proofs.Common.{◌∙◌}
use Rattle.sdb_pred.proofs.LoopLemmas.{asked_by_pairs}
use Rattle.sdb_pred.proofs.needing.has_value_for_some.Goals as goal

pub returns : goal.returns
returns c = c.some_value_is_asked.ensures ∙ asked_by_pairs c.args.members.now c.args.attr.now c.values.result.now c.args.item.now c.values.ensures
