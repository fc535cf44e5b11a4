use Rattle.std.proofs.Common.{◌≡◌, ◌++◌, take, length}
use Rattle.std.specs.List.{flat_map}
use Rattle.sdb_format.specs.Numbers.{be16}
use Rattle.sdb_record.specs.Spelling.{op_bytes}
use Rattle.sdb_record.proofs.write.append_ops.Given as goal

abbrev pub invariant-loop-op : goal.invariant-loop-op
invariant-loop-op l = l.out.bytes ≡ l.fn.out.bytes ++ (be16 (length l.ops) ++ flat_map op_bytes (take l.op-index l.op-items))
