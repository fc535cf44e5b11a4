use Rattle.std.proofs.Common.{◌≡◌, bytes_eq, false, take}
use Rattle.std.specs.List.{list_any}
use Rattle.sdb_page.proofs.showing.is_among.Given as goal

abbrev pub invariant-loop-other : goal.invariant-loop-other
invariant-loop-other l = list_any (bytes_eq l.name) (take l.other-index l.other-items) ≡ false
