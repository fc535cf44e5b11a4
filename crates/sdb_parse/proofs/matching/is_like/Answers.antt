use Rattle.std.proofs.Common.{◌∙◌}
use Rattle.sdb_parse.specs.Patterns.{letters}
use Rattle.sdb_parse.specs.declared.matching.Walk.TheVariants as walk_at
use Rattle.sdb_parse.proofs.PatternLemmas.{by_a_walk, fits_after}
use Rattle.sdb_parse.proofs.matching.is_like.Goals as goal

pub returns-in-Differs : goal.returns-in-Differs
unfolding fits_after
returns-in-Differs c = by_a_walk (letters c.args.pattern.now) c.args.text.now walk_at.Differs c.in-Differs.ensures.value

pub returns-in-Ends : goal.returns-in-Ends
unfolding fits_after
returns-in-Ends c = c.is_nothing.ensures ∙ by_a_walk (letters c.args.pattern.now) c.args.text.now (walk_at.Ends c.in-Ends.rest) c.in-Ends.ensures.value

pub returns-in-Run : goal.returns-in-Run
unfolding fits_after
returns-in-Run c = c.after_some_run.ensures ∙ by_a_walk (letters c.args.pattern.now) c.args.text.now (walk_at.Run c.in-Run.pattern c.in-Run.text) c.in-Run.ensures.value
