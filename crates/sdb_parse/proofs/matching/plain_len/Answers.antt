use Rattle.std.proofs.Common.{◌∷◌, arith}
use Rattle.sdb_parse.specs.Patterns.{letters}
use Rattle.sdb_parse.specs.Walks.{plain_len}
use Rattle.sdb_parse.proofs.PatternLemmas.{len_on_run, len_on_byte, len_on_end, no_bytes}
use Rattle.sdb_parse.proofs.matching.plain_len.Goals as goal

pub returns-in-Run : goal.returns-in-Run
returns-in-Run c =
    len_on_run (plain_len (letters c.args.pattern.now)) c.more.count c.more.left.now (c.in-Some.first.now ∷ c.in-Some.rest.now) c.split_letter-split.result.rest.now c.split_letter-split.result.letter
    c.more.invariant.0 c.in-Some.ensures.cases.0 c.split_letter-split.ensures.letter c.in-Run.is

pub more-preserved : goal.more-preserved
more-preserved c = (
  len_on_byte (plain_len (letters c.args.pattern.now)) c.more.count c.more.left.now (c.in-Some.first.now ∷ c.in-Some.rest.now) c.split_letter-split.result.rest.now c.split_letter-split.result.letter c.in-Byte.field-0
      c.more.invariant.0 c.in-Some.ensures.cases.0 c.split_letter-split.ensures.letter c.in-Byte.is,
  omega (arith, c.split_letter-split.ensures.shorter, c.in-Some.ensures.cases.1, c.more.invariant.1),
)

pub returns : goal.returns
returns c = len_on_end (plain_len (letters c.args.pattern.now)) c.more.count c.more.left.now c.more.invariant.0 (no_bytes c.more.left.now c.in_default.ensures.cases)
