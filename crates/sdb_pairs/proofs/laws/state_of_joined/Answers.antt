use Rattle.std.proofs.lemmas.Grind.{fold-append}
use Rattle.sdb_pairs.specs.Changes.{after_change}
use Rattle.sdb_pairs.proofs.laws.state_of_joined.Goals as goal

pub returns : goal.returns
returns c accounts first second = fold-append after_change accounts first second
