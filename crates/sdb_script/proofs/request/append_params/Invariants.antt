use Rattle.std.proofs.Common.{◌≡◌, ◌++◌, map, drop}
use Rattle.std.specs.Map.Iter.{deref_pair}
use Rattle.sdb_script.proofs.request.append_params.Given as goal

-- what is appended, and what is still to come
abbrev pub invariant-loop-name : goal.invariant-loop-name
invariant-loop-name l = l.params.items ++ map deref_pair (drop l.name-index l.more) ≡ l.fn.params.items ++ map deref_pair l.more
