use Rattle.sdb_disk.proofs.CallLemmas.{SameFile-trans}
use Rattle.sdb_disk.proofs.PatchLemmas.{over_leaves, over_synced_leaves}
use Rattle.sdb_disk.proofs.durable.write_over.Goals as goal

pub returns-in_err-write-clause-images : goal.returns-in_err-write-clause-images
returns-in_err-write-clause-images g c =
    over_leaves _ _ _ _ _ _ c.write.ensures.change.steps c.write.ensures.time

pub returns-in_err-sync-clause-images : goal.returns-in_err-sync-clause-images
returns-in_err-sync-clause-images g c =
    over_synced_leaves _ _ _ _ _ _ c.write.ensures.change.steps _ _ c.write.ensures.time c.sync.ensures.change c.sync.ensures.time

pub returns-clause-images : goal.returns-clause-images
returns-clause-images g c =
    over_synced_leaves _ _ _ _ _ _ c.write.ensures.change.steps _ _ c.write.ensures.time c.sync.ensures.change c.sync.ensures.time

pub returns-in_err-sync-clause-others : goal.returns-in_err-sync-clause-others
returns-in_err-sync-clause-others g c =
    λ k other. SameFile-trans _ _ _ k (c.write.ensures.change.steps.others k other) (c.sync.ensures.change.others k other)

pub returns-clause-others : goal.returns-clause-others
returns-clause-others g c =
    λ k other. SameFile-trans _ _ _ k (c.write.ensures.change.steps.others k other) (c.sync.ensures.change.others k other)
