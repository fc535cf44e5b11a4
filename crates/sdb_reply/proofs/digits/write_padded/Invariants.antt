use Rattle.std.proofs.Common.{◌≡◌, ◌≤◌, ◌++◌, length, drop}
use Rattle.sdb_reply.specs.Digits.{padded}
use Rattle.sdb_reply.proofs.digits.write_padded.Given as goal

-- the digits still to be written, and those that are
abbrev pub invariant-loop-place : goal.invariant-loop-place
invariant-loop-place l = (l.place ≤ length l.digits) × (padded l.base l.place l.n ++ drop l.place l.digits ≡ padded l.base (length l.fn.digits) l.fn.n)

abbrev pub decreases-loop-place : goal.decreases-loop-place
decreases-loop-place l = l.place
