use Rattle.std.proofs.Common.{◌≡◌, ◌+◌, drop}
use Rattle.std.specs.Char.{is_ascii_digit}
use Rattle.sdb_lex.specs.Bytes.{run}
use Rattle.sdb_lex.proofs.bytes.digit_run.Given as goal

abbrev pub invariant-loop-at : goal.invariant-loop-at
invariant-loop-at l = run is_ascii_digit l.text ≡ l.at + run is_ascii_digit (drop l.at l.text)
