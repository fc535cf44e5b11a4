use Rattle.std.proofs.Common.{◌∙◌}
use Rattle.sdb_pairs.proofs.PairLemmas.{added_at, added_there}
use Rattle.sdb_pairs.proofs.part.put_one.Goals as goal

pub returns-in_default-clause-items : goal.returns-in_default-clause-items
returns-in_default-clause-items c = added_there c.args.pair c.args.pairs.now.items c.deref.result.now c.deref.ensures.value c.requires.rising c.in_default.field-0 c.in_default.ensures.bound c.in_default.ensures.ok

pub returns-in-Ok-clause-items : goal.returns-in-Ok-clause-items
returns-in-Ok-clause-items c = c.in-Ok.ensures.items ∙ added_at c.args.pair c.args.pairs.now.items c.deref.result.now c.deref.ensures.value c.requires.rising c.in-Err.place c.in-Err.ensures.bound c.in-Err.ensures.position
