use Rattle.sdb_page.proofs.JoinedLemmas.{select-pages-are, select-pages-join}
use Rattle.sdb_page.proofs.laws.pages_of_a_select_join.Goals as goal

pub returns-clause-same : goal.returns-clause-same
returns-clause-same c = λ s items all lawful some pages. select-pages-join s items lawful some all pages

pub returns-clause-some : goal.returns-clause-some
returns-clause-some c = λ s items lawful some. select-pages-are s items lawful some
