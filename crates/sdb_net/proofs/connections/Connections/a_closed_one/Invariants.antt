use Rattle.std.proofs.Common.{◌≡◌, ◌⊎◌, ℕ, IsSome, true, All}
use Rattle.std.specs.Ordering.{nat_cmp, eq_by_cmp}
use Rattle.std.specs.Set.{is_member}
use Rattle.sdb_net.specs.Connections.{socket_at, idle_at}
use Rattle.sdb_net.proofs.connections.Connections.a_closed_one.Given as goal

-- each number that is left has a socket, and each socket is left or its connection is open
abbrev pub invariant-loop-number : goal.invariant-loop-number
invariant-loop-number g l = record {
  sockets : All (λ k. IsSome (socket_at l.self k)) l.number-iterator;
  left_or_open : (k : ℕ) → IsSome (socket_at l.self k) → (is_member (eq_by_cmp nat_cmp) l.number-iterator k ≡ true) ⊎ IsSome (idle_at l.self k);
}
