-- What an answer shows of items, which lend their names and pairs.
use Rattle.std.specs.Prelude.{ℕ, List, map}
use Rattle.std.specs.Borrow.{Bor}
use Rattle.sdb_pairs.specs.declared.pair.Pair.{Pair}

-- the pairs that are lent
abbrev pub lent : List (Bor Pair) → List Pair
lent pairs = map (λ pair. pair.now) pairs

-- an item as an answer shows it
pub record ShownItem : Type 0 where
  pub name : List ℕ
  pub pairs : List Pair
