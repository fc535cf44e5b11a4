use Rattle.std.proofs.Common.{◌≡◌, ◌++◌, take}
use Rattle.std.specs.List.{flat_map}
use Rattle.sdb_reply.specs.Results.{item}
use Rattle.sdb_reply.proofs.results.append_page.Given as goal

-- the items so far are appended
abbrev pub invariant-loop-one : goal.invariant-loop-one
invariant-loop-one l = l.out.bytes ≡ l.fn.out.bytes ++ flat_map item (take l.one-index l.shown)
