use Rattle.std.proofs.Common.{◌≤◌, length}
use Rattle.sdb_core.specs.Inside.{HasRoom}
use Rattle.sdb_core.proofs.FillLemmas.{FillsSo}
use Rattle.sdb_core.proofs.executing.fill.Given as goal

abbrev pub invariant-requests : goal.invariant-requests
invariant-requests g l = record {
  fills : FillsSo l.initial.line l.initial.store l.line l.store l.initial.items l.items;
  later : l.initial.items ≤ l.items;
  room : HasRoom l.line l.store;
}

abbrev pub decreases-requests : goal.decreases-requests
decreases-requests g l = length l.line.waiting
