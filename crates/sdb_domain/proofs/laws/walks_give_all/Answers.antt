use Rattle.sdb_domain.proofs.WalkLemmas.{entries_behind, walks_give_all}
use Rattle.sdb_domain.proofs.laws.walks_give_all.Goals as goal

pub returns : goal.returns
returns c = record { all = walks_give_all; behind = λ items after item rest are e. entries_behind items after item rest are.rising e }
