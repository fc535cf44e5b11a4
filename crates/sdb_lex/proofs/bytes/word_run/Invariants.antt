use Rattle.std.proofs.Common.{◌≡◌, ◌+◌, drop}
use Rattle.sdb_lex.specs.Bytes.{word, run}
use Rattle.sdb_lex.proofs.bytes.word_run.Given as goal

abbrev pub invariant-loop-at : goal.invariant-loop-at
invariant-loop-at l = run word l.text ≡ l.at + run word (drop l.at l.text)
