use Rattle.std.proofs.Common.{◌≡◌, ◌++◌, take, length}
use Rattle.std.specs.List.{flat_map}
use Rattle.sdb_format.specs.Numbers.{be32}
use Rattle.sdb_record.specs.Spelling.{change_bytes}
use Rattle.sdb_record.proofs.write.write_changes.Given as goal

abbrev pub invariant-loop-change : goal.invariant-loop-change
invariant-loop-change l = l.out.bytes ≡ be32 (length l.changes) ++ flat_map change_bytes (take l.change-index l.change-items)
