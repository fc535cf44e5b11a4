use Rattle.std.proofs.Common.{◌≡◌, None}
use Rattle.sdb_net.proofs.IdleLemmas.{earliest}
use Rattle.sdb_net.proofs.connections.Connections.longest_idle.Given as goal

-- what is found so far and what is left of the entries have the earliest of all
abbrev pub invariant-loop-number : goal.invariant-loop-number
invariant-loop-number g l = earliest l.longest l.number-iterator ≡ earliest None l.fn.self.opened.entries
