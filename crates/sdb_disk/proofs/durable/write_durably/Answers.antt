use Rattle.sdb_disk.proofs.PatchLemmas.{patched_leaves}
use Rattle.sdb_disk.proofs.durable.write_durably.Goals as goal

pub returns-clause-images : goal.returns-clause-images
returns-clause-images g c =
    patched_leaves _ _ _ (g.D.Disk.state c.args.disk.now) (g.D.Disk.state c.write_over.new.disk) c.requires.settled c.write_over.ensures.images
