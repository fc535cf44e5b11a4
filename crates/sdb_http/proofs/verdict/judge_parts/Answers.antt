use Rattle.std.proofs.Common.{◌∙◌}
use Rattle.sdb_http.proofs.FieldLemmas.{verdict_is}
use Rattle.sdb_http.proofs.verdict.judge_parts.Goals as goal

pub returns-clause-value : goal.returns-clause-value
returns-clause-value c =
    c.verdict.ensures.value ∙ verdict_is c.args.head.now c.args.spans.now c.args.headers.now c.find_wanted-wanted.result c.find_wanted-wanted.ensures
