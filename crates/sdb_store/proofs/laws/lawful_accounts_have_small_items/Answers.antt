use Rattle.sdb_store.proofs.SmallLemmas.{lawful_small}
use Rattle.sdb_store.proofs.laws.lawful_accounts_have_small_items.Goals as goal

pub returns : goal.returns
returns c = lawful_small
