use Rattle.std.proofs.Common.{map, take}
use Rattle.sdb_write.specs.ItemWrites.{put_of}
use Rattle.sdb_write.proofs.OnceLemmas.{AreDropped}
use Rattle.sdb_write.proofs.ops.drop_replaced.Given as goal

abbrev pub invariant-loop-pair : goal.invariant-loop-pair
invariant-loop-pair l = AreDropped (map put_of (take l.pair-index l.pairs)) l.seen.keys l.fn.ops l.ops
