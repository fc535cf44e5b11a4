use Rattle.std.proofs.Common.{sym, ◌∙◌}
use Rattle.sdb_parse.specs.Patterns.{letters}
use Rattle.sdb_parse.specs.declared.matching.Walk.TheVariants as walk_at
use Rattle.sdb_parse.proofs.PatternLemmas.{at_end_by_walk, fits_after, no_run, too_short}
use Rattle.sdb_parse.proofs.matching.ends_with.Goals as goal

pub returns-then-text-count : goal.returns-then-text-count
returns-then-text-count c = sym (too_short (letters c.args.pattern.now) c.args.count c.args.text.now c.requires c.if-text-count.true)

pub returns-in-Ends : goal.returns-in-Ends
unfolding fits_after
returns-in-Ends c =
    c.is_nothing.ensures ∙ at_end_by_walk (letters c.args.pattern.now) c.args.count c.args.text.now c.split_at.result.1.now (walk_at.Ends c.in-Ends.rest) c.requires c.if-text-count.false c.split_at.ensures.back c.in-Ends.ensures.value

pub returns-in-Differs : goal.returns-in-Differs
unfolding fits_after
returns-in-Differs c =
    at_end_by_walk (letters c.args.pattern.now) c.args.count c.args.text.now c.split_at.result.1.now walk_at.Differs c.requires c.if-text-count.false c.split_at.ensures.back c.in-Differs.ensures.value

pub unreachable-requires : goal.unreachable-requires
unreachable-requires c = no_run (letters c.args.pattern.now) c.args.count c.split_at.result.1.now (letters c.in-Run.field-0.now) c.in-Run.field-1.now c.requires c.in-Run.ensures.value
