use Rattle.sdb_disk.proofs.CallLemmas.{Elapses-refl}
use Rattle.sdb_serve.proofs.TurnedLemmas.{Ends-empty}
use Rattle.sdb_serve.proofs.server.drive.Goals as goal

pub returns-in_default-clause-served : goal.returns-in_default-clause-served
returns-in_default-clause-served g c = λ told o stands out. Ends-empty c.args.turns o c.args.core.now _ _ _ stands out

pub returns-in_default-clause-time : goal.returns-in_default-clause-time
returns-in_default-clause-time g c = Elapses-refl (g.D.Disk.state c.args.disk.now) (λ t f le image. g.met.D.Disk.counts_now c.args.disk.now t f le image) (λ f left. g.met.D.Disk.only_now c.args.disk.now f left)
