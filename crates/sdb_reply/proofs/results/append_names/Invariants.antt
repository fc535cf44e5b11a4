use Rattle.std.proofs.Common.{◌≡◌, ◌++◌, take}
use Rattle.std.specs.List.{flat_map}
use Rattle.sdb_reply.specs.Elements.{element}
use Rattle.sdb_reply.specs.Results.{domain_name}
use Rattle.sdb_reply.proofs.results.append_names.Given as goal

-- the names so far are appended
abbrev pub invariant-loop-name : goal.invariant-loop-name
invariant-loop-name l = l.out.bytes ≡ l.fn.out.bytes ++ flat_map (element domain_name) (take l.name-index l.names)
