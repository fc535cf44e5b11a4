use Rattle.std.proofs.Common.{[], subst}
use Rattle.sdb_core.specs.Told.{StandsFor}
use Rattle.sdb_bench.proofs.NewLemmas.{images_stand, seen_stand}
use Rattle.sdb_bench.proofs.opening.open.Goals as goal

pub returns-in-Ok-clause-stands : goal.returns-in-Ok-clause-stands
returns-in-Ok-clause-stands g c =
    subst (λ keys. StandsFor c.in-Ok.core (g.D.Disk.state c.start.new.disk) (record { keys = keys; accounts = []; number = 0; moment = (g.D.Disk.state c.start.new.disk).moment }) [])
    c.in_ok-keys.ensures
    (c.in-Ok.ensures.kept c.requires.told [] 0 (images_stand (g.D.Disk.state c.args.disk.now) c.requires))

-- new files stand for no accounts
pub unreachable-requires : goal.unreachable-requires
unreachable-requires g c =
    c.in-Err-NotAStore.ensures.sure c.requires.told [] 0 (seen_stand (g.D.Disk.state c.args.disk.now) c.requires) c.in-Err-NotAStore.field-0-0 c.in-Err-NotAStore.field-0-is
