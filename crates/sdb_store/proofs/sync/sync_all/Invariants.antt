use Rattle.sdb_store.specs.Synced.{Synced}
use Rattle.sdb_store.proofs.sync.sync_all.Given as goal

abbrev pub invariant-loop-file : goal.invariant-loop-file
invariant-loop-file g l = Synced l.file (g.D.Disk.state l.fn.disk) (g.D.Disk.state l.disk)
