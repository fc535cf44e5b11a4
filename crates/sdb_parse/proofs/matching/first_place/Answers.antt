use Rattle.std.proofs.Common.{sym, ◌∙◌}
use Rattle.sdb_parse.specs.Patterns.{letters}
use Rattle.sdb_parse.specs.Walks.{first_place}
use Rattle.sdb_parse.proofs.PatternLemmas.{no_bytes, place_ends, place_goes_on, place_stops}
use Rattle.sdb_parse.proofs.matching.first_place.Goals as goal

pub returns-then-not-differs-clause-value : goal.returns-then-not-differs-clause-value
returns-then-not-differs-clause-value c =
    place_stops (first_place (letters c.args.pattern.now) c.args.text.now) (letters c.args.pattern.now) c.more.left.now c.walk_from-walk.result c.more.invariant c.walk_from-walk.ensures.value (sym c.differs.ensures ∙ c.if-not-differs.true)

pub more-preserved : goal.more-preserved
more-preserved c =
    place_goes_on (first_place (letters c.args.pattern.now) c.args.text.now) (letters c.args.pattern.now) c.more.left.now c.in-Some.field-0-0.now c.in-Some.rest.now c.walk_from-walk.result c.more.invariant c.in-Some.ensures.cases.0 c.walk_from-walk.ensures.value (sym c.differs.ensures ∙ c.if-not-differs.false)

pub returns-clause-value : goal.returns-clause-value
returns-clause-value c =
    place_ends (first_place (letters c.args.pattern.now) c.args.text.now) (letters c.args.pattern.now) c.more.left.now c.walk_from.result c.more.invariant (no_bytes c.more.left.now c.in_default.ensures.cases) c.walk_from.ensures.value
