use Rattle.std.proofs.Common.{◌≡◌, ◌∙◌, sym, ap, refl, true, List, [], ◌∷◌, filter}
use Rattle.std.specs.Option.{option_copied}
use Rattle.sdb_pairs.specs.declared.pair.Pair.{Pair}
use Rattle.sdb_pairs.specs.Parts.{part_given}
use Rattle.sdb_pairs.proofs.part.part_given.Goals as goal

all : (pairs : List Pair) → pairs ≡ filter (λ q. true) pairs
all [] = refl
all (p ∷ ps) = ap (λ l. p ∷ l) (all ps)

pub returns-in-None : goal.returns-in-None
returns-in-None c =
    c.pairs.ensures.same ∙ all c.args.item.now ∙ ap (λ o. part_given (option_copied o) c.args.item.now) (sym c.in-None.is)
