use Rattle.std.proofs.Common.{◌≡◌, ◌++◌, filter, drop, true}
use Rattle.sdb_sign.specs.Canon.{is_signed, left_of}
use Rattle.sdb_sign.proofs.canon.append_in_order.Given as goal

abbrev pub invariant-loop-place : goal.invariant-loop-place
invariant-loop-place l =
    l.text.bytes ++ left_of l.is_first (filter is_signed (drop l.place l.params)) ≡ l.fn.text.bytes ++ left_of true (filter is_signed l.params)
