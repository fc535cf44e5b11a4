use Rattle.std.proofs.Common.{◌<◌, List, ℕ, length, sym, subst}
use Rattle.sdb_cli.specs.Lines.{most_line}
use Rattle.sdb_cli.proofs.LongLemmas.{held-long, long_line-long}
use Rattle.sdb_cli.proofs.held.HeldLine.line.Goals as goal

pub returns-then-self : goal.returns-then-self
returns-then-self c =
    let P : List ℕ → Type 0 = λ l. most_line < length l in
    subst P (sym (held-long c.args.self.now c.self.inside.bytes.items c.self.inside.is_long (sym c.self.view_is) c.if-self.true)) long_line-long
