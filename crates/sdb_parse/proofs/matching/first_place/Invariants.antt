use Rattle.std.proofs.Common.{◌≡◌, length}
use Rattle.sdb_parse.specs.Patterns.{letters}
use Rattle.sdb_parse.specs.Walks.{first_place}
use Rattle.sdb_parse.proofs.matching.first_place.Given as goal

abbrev pub invariant-more : goal.invariant-more
invariant-more l = first_place (letters l.pattern) l.fn.text ≡ first_place (letters l.pattern) l.left

abbrev pub decreases-more : goal.decreases-more
decreases-more l = length l.left
