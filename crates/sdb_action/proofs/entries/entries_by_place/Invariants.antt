use Rattle.std.proofs.Common.{◌≡◌, ℕ, map, take}
use Rattle.std.specs.BTreeMap.{get}
use Rattle.std.specs.Ordering.{nat_cmp}
use Rattle.sdb_action.specs.Entries.{entry_at}
use Rattle.sdb_action.proofs.entries.entries_by_place.Given as goal

abbrev pub invariant-loop-pair : goal.invariant-loop-pair
invariant-loop-pair g l = (q : ℕ) → get nat_cmp l.all q ≡ entry_at l.kind (map g.P.NamedValue.named (take l.pair-index l.pairs)) q
