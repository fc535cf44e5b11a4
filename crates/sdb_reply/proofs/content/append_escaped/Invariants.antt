use Rattle.std.proofs.Common.{◌≡◌, ◌++◌, length}
use Rattle.sdb_reply.specs.Escape.{escaped}
use Rattle.sdb_reply.proofs.content.append_escaped.Given as goal

-- what is appended and what the rest stands for are what the whole stands for
abbrev pub invariant-runs : goal.invariant-runs
invariant-runs l = l.fn.out.bytes ++ escaped l.fn.bytes ≡ l.out.bytes ++ escaped l.rest

abbrev pub decreases-runs : goal.decreases-runs
decreases-runs l = length l.rest
