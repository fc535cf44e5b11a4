use Rattle.std.proofs.Common.{◌≤◌, ◌+◌, map, drop}
use Rattle.sdb_write.specs.ItemWrites.{put_write}
use Rattle.sdb_write.proofs.BatchLemmas.{Walked}
use Rattle.sdb_write.proofs.puts.put_items.Given as goal

abbrev pub invariant-loop-item : goal.invariant-loop-item
invariant-loop-item g l =
    Walked l.account l.name l.domain (map put_write l.items) (map put_write (drop l.item-index l.items)) l.changes l.totals × (l.looks ≤ l.fn.looks + l.item-index)
