use Rattle.sdb_page.proofs.FitLemmas.{item-fits}
use Rattle.sdb_page.proofs.laws.items_fit_on_a_page.Goals as goal

pub returns : goal.returns
returns c = item-fits
