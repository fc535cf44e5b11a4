use Rattle.std.proofs.Common.{sym, arith}
use Rattle.sdb_cli.proofs.LongLemmas.{held-long, held-short, long-longer, becomes-long, long_line-one}
use Rattle.sdb_cli.proofs.held.HeldLine.extend.Goals as goal

pub returns-then-self-clause-alike : goal.returns-then-self-clause-alike
returns-then-self-clause-alike c =
    long-longer c.args.self.now c.args.more.now (held-long _ _ _ (sym c.self.view_is) c.if-self.true)

pub returns-then-more-len-clause-alike : goal.returns-then-more-len-clause-alike
returns-then-more-len-clause-alike c =
    becomes-long c.args.self.now c.self.inside.bytes.items c.args.more.now (held-short _ _ _ (sym c.self.view_is) c.if-self.false) c.self.invariant (omega (arith, c.if-more-len.true, c.len.ensures))

pub returns-then-more-len-clause-one_line : goal.returns-then-more-len-clause-one_line
returns-then-more-len-clause-one_line c = λ one more. long_line-one
