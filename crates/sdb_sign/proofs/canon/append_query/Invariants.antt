use Rattle.std.proofs.Common.{◌≡◌, ◌++◌, map, true}
use Rattle.std.specs.Map.Iter.{deref_pair}
use Rattle.sdb_sign.specs.Canon.{left_of}
use Rattle.sdb_sign.proofs.canon.append_query.Given as goal

abbrev pub invariant-loop-name : goal.invariant-loop-name
invariant-loop-name l =
    l.text.bytes ++ left_of l.is_first (map deref_pair l.name-iterator) ≡ l.fn.text.bytes ++ left_of true (map deref_pair l.rising.entries)
