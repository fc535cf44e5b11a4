use Rattle.std.proofs.Common.{◌≡◌, drop}
use Rattle.sdb_domain.specs.Held.{items_kept}
use Rattle.sdb_domain.specs.Undo.{Covers}
use Rattle.sdb_domain.proofs.opened.Opened.close.Given as goal

abbrev pub invariant-loop-was : goal.invariant-loop-was
invariant-loop-was l = record {
  same : items_kept l.held ≡ items_kept l.initial.held;
  covers : Covers l.held (drop l.was-index l.was-items);
}
