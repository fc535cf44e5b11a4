use Rattle.std.proofs.Common.{◌≡◌, ◌++◌, map, take, drop, bit_xor}
use Rattle.sdb_keys.proofs.mac.masked.Given as goal

abbrev pub invariant-loop-b : goal.invariant-loop-b
invariant-loop-b l =
    l.b-items ≡ map (λ b. bit_xor b l.mask) (take l.b-index l.fn.block) ++ drop l.b-index l.fn.block
