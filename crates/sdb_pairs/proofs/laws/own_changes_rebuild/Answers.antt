use Rattle.sdb_pairs.proofs.RebuildLemmas.{own_changes_rebuild, own_changes_lawful}
use Rattle.sdb_pairs.proofs.laws.own_changes_rebuild.Goals as goal

pub returns : goal.returns
returns c = record { rebuilt = own_changes_rebuild; lawful = own_changes_lawful }
