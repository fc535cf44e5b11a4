use Rattle.std.proofs.Common.{◌≡◌, map, take}
use Rattle.sdb_write.specs.Changes.{edit_of}
use Rattle.sdb_write.specs.ItemWrites.{drop_write}
use Rattle.sdb_write.proofs.deletions.delete_items.Given as goal

abbrev pub invariant-loop-item : goal.invariant-loop-item
invariant-loop-item l = l.changes ≡ map (edit_of l.account l.domain) (map drop_write (take l.item-index l.items))
