use Rattle.std.proofs.Common.{◌≡◌, ◌+◌, drop, false, option_map}
use Rattle.sdb_lex.specs.Fronts.{closing}
use Rattle.sdb_lex.proofs.front.find_closing.Given as goal

abbrev pub invariant-loop-at : goal.invariant-loop-at
invariant-loop-at l = closing l.sign false l.rest ≡ option_map (λ n. l.at + n) (closing l.sign l.pending (drop l.at l.rest))
