use Rattle.std.proofs.Common.{◌≡◌, drop}
use Rattle.sdb_page.specs.Seen.{left_of}
use Rattle.sdb_page.proofs.ShownLemmas.{bytes_of}
use Rattle.sdb_page.proofs.showing.room_behind_pairs.Given as goal

abbrev pub invariant-loop-pair : goal.invariant-loop-pair
invariant-loop-pair l = left_of l.fn.room (bytes_of l.output l.pairs) ≡ left_of l.room (bytes_of l.output (drop l.pair-index l.pairs))
