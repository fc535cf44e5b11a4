use Rattle.std.proofs.Common.{◌≡◌, ◌≤◌, length}
use Rattle.sdb_parse.specs.Patterns.{letters}
use Rattle.sdb_parse.specs.Walks.{walk}
use Rattle.sdb_parse.proofs.matching.walk_from.Given as goal

abbrev pub invariant-more : goal.invariant-more
invariant-more l = (walk (letters l.fn.pattern) l.fn.text ≡ walk (letters l.letters) l.left) × (length l.letters ≤ length l.fn.pattern)

abbrev pub decreases-more : goal.decreases-more
decreases-more l = length l.letters
