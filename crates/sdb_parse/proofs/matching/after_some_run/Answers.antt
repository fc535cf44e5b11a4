use Rattle.std.proofs.Common.{sym, ◌∙◌}
use Rattle.sdb_parse.specs.Patterns.{after_some_run, has_letters, letters}
use Rattle.sdb_parse.specs.declared.matching.Walk.TheVariants as walk_at
use Rattle.sdb_parse.proofs.PatternLemmas.{by_first_place, fits_after, no_end_first}
use Rattle.sdb_parse.proofs.matching.after_some_run.Goals as goal

pub returns-in-Differs : goal.returns-in-Differs
unfolding fits_after
returns-in-Differs c =
    sym (by_first_place (after_some_run (has_letters (letters c.args.pattern.now)) c.args.text.now) (letters c.part.letters.now) c.part.rest.now walk_at.Differs c.part.invariant (sym c.in_default.ensures) c.in-Differs.ensures.value)

pub unreachable-requires : goal.unreachable-requires
unreachable-requires c = no_end_first (letters c.part.letters.now) c.part.rest.now c.in-Ends.field-0.now (sym c.in_default.ensures) (sym c.in-Ends.ensures.value)

pub part-preserved : goal.part-preserved
unfolding fits_after
part-preserved c =
    by_first_place (after_some_run (has_letters (letters c.args.pattern.now)) c.args.text.now) (letters c.part.letters.now) c.part.rest.now (walk_at.Run c.in-Run.after c.in-Run.left) c.part.invariant (sym c.in_default.ensures) c.in-Run.ensures.value
