use Rattle.std.proofs.Common.{◌≡◌, filter, take}
use Rattle.sdb_page.specs.Seen.{shows}
use Rattle.sdb_page.proofs.showing.show.Given as goal

abbrev pub invariant-loop-pair : goal.invariant-loop-pair
invariant-loop-pair l = l.shown ≡ filter (shows l.output) (take l.pair-index l.pairs)
