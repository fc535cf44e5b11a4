use Rattle.std.proofs.Common.{◌≡◌, ◌++◌, take}
use Rattle.std.specs.List.{flat_map}
use Rattle.sdb_reply.specs.Results.{attribute}
use Rattle.sdb_reply.proofs.results.append_attributes.Given as goal

-- the pairs so far are appended
abbrev pub invariant-loop-pair : goal.invariant-loop-pair
invariant-loop-pair l = l.out.bytes ≡ l.fn.out.bytes ++ flat_map (λ pair. attribute pair.now) (take l.pair-index l.pairs)
