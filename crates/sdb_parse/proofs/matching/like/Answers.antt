use Rattle.std.proofs.Common.{rules}
use Rattle.sdb_parse.proofs.PatternLemmas.{by_test}
use Rattle.sdb_parse.proofs.matching.like.Goals as goal

pub returns-clause-parts : goal.returns-clause-parts
returns-clause-parts c = by_test c.args.pattern.now c.args.text.now c.is_like.result (search rules)
