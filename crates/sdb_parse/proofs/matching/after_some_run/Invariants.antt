use Rattle.std.proofs.Common.{◌≡◌, length}
use Rattle.sdb_parse.specs.Patterns.{after_some_run, has_letters, letters}
use Rattle.sdb_parse.proofs.matching.after_some_run.Given as goal

abbrev pub invariant-part : goal.invariant-part
invariant-part l = after_some_run (has_letters (letters l.fn.pattern)) l.fn.text ≡ after_some_run (has_letters (letters l.letters)) l.rest

abbrev pub decreases-part : goal.decreases-part
decreases-part l = length l.letters
