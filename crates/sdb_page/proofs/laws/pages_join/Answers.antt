use Rattle.sdb_page.specs.Spots.{answer, most_bytes, row_bytes}
use Rattle.sdb_page.proofs.FitLemmas.{answer-fits}
use Rattle.sdb_page.proofs.PageLemmas.{pages-join, pages-are}
use Rattle.sdb_page.proofs.SpotLemmas.{answer-rises, spot_total}
use Rattle.sdb_page.proofs.laws.pages_join.Goals as goal

pub returns-clause-same : goal.returns-clause-same
returns-clause-same c = λ shown limit passes sort items all lawful some joins.
    pages-join spot_total (row_bytes shown) limit most_bytes (answer passes sort items) (answer-rises passes sort items) some (answer-fits shown passes sort items lawful) all joins

pub returns-clause-some : goal.returns-clause-some
returns-clause-some c = λ shown limit passes sort items lawful some.
    pages-are spot_total (row_bytes shown) limit most_bytes (answer passes sort items) (answer-rises passes sort items) some (answer-fits shown passes sort items lawful)
