use Rattle.std.proofs.Common.{◌≡◌}
use Rattle.sdb_net.proofs.tcp.TcpLinksLinks.next.Given as goal

-- a turn that gives no event changes no number
abbrev pub invariant-turns : goal.invariant-turns
invariant-turns g l = record {
  last : l.self.connections.last ≡ l.initial.self.connections.last;
  faults : l.self.faults ≡ l.initial.self.faults;
}
