use Rattle.std.proofs.Common.{sym, not, ap}
use Rattle.sdb_cli.proofs.LongLemmas.{held-long, long_line-some}
use Rattle.sdb_cli.proofs.held.HeldLine.is_empty.Goals as goal

pub returns-else-not-self : goal.returns-else-not-self
returns-else-not-self c =
    let long = c.if-not-self.false in (
      λ short. (let other = ap not long in cc),
      λ none. absurd (long_line-some c.args.self.now (held-long c.args.self.now c.self.inside.bytes.items c.self.inside.is_long (sym c.self.view_is) long) none),
    )
