use Rattle.std.proofs.Common.{◌∷◌, ◌∙◌, sym, ap, arith}
use Rattle.sdb_parse.specs.Patterns.{letters}
use Rattle.sdb_parse.specs.Walks.{walk}
use Rattle.sdb_parse.proofs.PatternLemmas.{on_run, on_same, on_other, on_end, no_bytes}
use Rattle.sdb_parse.proofs.matching.walk_from.Goals as goal

pub returns-in-Run-clause-value : goal.returns-in-Run-clause-value
returns-in-Run-clause-value c =
    on_run (walk (letters c.args.pattern.now) c.args.text.now) c.more.letters.now (c.in-Some.first.now ∷ c.in-Some.rest.now) c.split_letter-split.result.rest.now c.more.left.now c.split_letter-split.result.letter
    c.more.invariant.0 c.in-Some.ensures.cases.0 c.split_letter-split.ensures.letter c.in-Run.is

pub returns-then-not-begins_with-clause-value : goal.returns-then-not-begins_with-clause-value
returns-then-not-begins_with-clause-value c =
    on_other (walk (letters c.args.pattern.now) c.args.text.now) c.more.letters.now (c.in-Some.first.now ∷ c.in-Some.rest.now) c.split_letter-split.result.rest.now c.more.left.now c.split_letter-split.result.letter c.in-Byte.byte
    c.more.invariant.0 c.in-Some.ensures.cases.0 c.split_letter-split.ensures.letter c.in-Byte.is (sym c.begins_with.ensures.value ∙ c.if-not-begins_with.true)

pub more-preserved : goal.more-preserved
more-preserved c = (
  on_same (walk (letters c.args.pattern.now) c.args.text.now) c.more.letters.now (c.in-Some.first.now ∷ c.in-Some.rest.now) c.split_letter-split.result.rest.now c.more.left.now c.split_letter-split.result.letter c.in-Byte.byte
      c.more.invariant.0 c.in-Some.ensures.cases.0 c.split_letter-split.ensures.letter c.in-Byte.is (sym c.begins_with.ensures.value ∙ c.if-not-begins_with.false)
      ∙ ap (walk (letters c.split_letter-split.result.rest.now)) (sym c.split_at.ensures.back),
  omega (arith, c.split_letter-split.ensures.shorter, c.in-Some.ensures.cases.1, c.more.invariant.1),
)

pub returns-clause-value : goal.returns-clause-value
returns-clause-value c = on_end (walk (letters c.args.pattern.now) c.args.text.now) c.more.letters.now c.more.left.now c.more.invariant.0 (no_bytes c.more.letters.now c.in_default.ensures.cases)
