use Rattle.std.proofs.Common.{◌≡◌, ◌+◌, ◌≤◌, length, option_map}
use Rattle.sdb_parse.specs.Patterns.{letters}
use Rattle.sdb_parse.specs.Walks.{plain_len}
use Rattle.sdb_parse.proofs.matching.plain_len.Given as goal

abbrev pub invariant-more : goal.invariant-more
invariant-more l =
    (plain_len (letters l.fn.pattern) ≡ option_map (λ n. l.count + n) (plain_len (letters l.left))) × (l.count + length l.left ≤ length l.fn.pattern)

abbrev pub decreases-more : goal.decreases-more
decreases-more l = length l.left
