use Rattle.std.proofs.Common.{length, ◌-◌}
use Rattle.sdb_lex.proofs.CutLemmas.{Going}
use Rattle.sdb_lex.proofs.lexer.lex.Given as goal

abbrev pub invariant-cut : goal.invariant-cut
invariant-cut l = Going l.bytes l.at l.tokens

abbrev pub decreases-cut : goal.decreases-cut
decreases-cut l = length l.bytes - l.at
