use Rattle.std.proofs.Common.{◌≡◌, ◌<◌, length, sym, ◌∙◌, arith}
use Rattle.sdb_http.proofs.HeadLemmas.{no_end_at_all, no_end_more}
use Rattle.sdb_http.proofs.head.find_end.Goals as goal

pub lines-preserved : goal.lines-preserved
lines-preserved c =
    (omega (arith, c.in-Some.ensures.0), no_end_more c.args.held.now c.lines.at c.in-Some.end c.lines.invariant.1 c.in-Some.ensures.2 (sym c.closes_head.ensures ∙ c.if-closes_head.false))

pub returns-in-None : goal.returns-in-None
returns-in-None c = λ k few within. no_end_at_all c.args.held.now c.lines.at c.min-limit.result c.lines.invariant.1 c.in-None.ensures k (omega (arith, c.min-limit.ensures))
