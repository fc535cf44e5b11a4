use Rattle.sdb_page.specs.Pages.{after}
use Rattle.sdb_page.specs.Spots.{spot_cmp}
use Rattle.sdb_page.proofs.FrontLemmas.{fitting-is_longest}
use Rattle.sdb_page.proofs.laws.pages_are_longest.Goals as goal

pub returns : goal.returns
returns c = λ size limit bytes rows place. fitting-is_longest size limit bytes (after spot_cmp rows place)
