use Rattle.sdb_core.proofs.LawLemmas.{is_full_after}
use Rattle.sdb_core.proofs.laws.none_waits_while_there_is_room.Goals as goal

pub returns-clause-few : goal.returns-clause-few
returns-clause-few c o story = (is_full_after o story).few

pub returns-clause-none : goal.returns-clause-none
returns-clause-none c o story sound less = (is_full_after o story).none sound less
