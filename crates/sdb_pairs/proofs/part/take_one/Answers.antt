use Rattle.std.proofs.Common.{◌∙◌}
use Rattle.sdb_pairs.proofs.PairLemmas.{dropped_there, dropped_absent}
use Rattle.sdb_pairs.proofs.part.take_one.Goals as goal

pub returns-in-Ok-clause-items : goal.returns-in-Ok-clause-items
returns-in-Ok-clause-items c = c.remove.ensures.items ∙ dropped_there c.args.pair.now c.args.pairs.now.items c.deref.result.now c.deref.ensures.value c.requires c.in-Ok.place c.in-Ok.ensures.bound c.in-Ok.ensures.ok

pub returns-in_default-clause-items : goal.returns-in_default-clause-items
returns-in_default-clause-items c = dropped_absent c.args.pair.now c.args.pairs.now.items c.deref.result.now c.deref.ensures.value c.requires c.in_default.field-0 c.in_default.ensures.bound c.in_default.ensures.position
