use Rattle.std.proofs.Common.{◌≡◌, List, ℕ, take}
use Rattle.std.specs.Borrow.{Bor}
use Rattle.sdb_pairs.specs.declared.pair.Pair.{Pair}
use Rattle.sdb_answer.specs.Gets.{Finds, asked_pairs}
use Rattle.sdb_answer.proofs.gets.pairs_asked.Given as goal

-- the pairs so far that are asked for
pub record Gathered (found : List Pair) (keys : List (Bor (List ℕ))) (names : List (List ℕ)) (pairs : List Pair) : Type 0 where
  pub gathered : found ≡ asked_pairs names pairs
  pub finds : Finds keys names

abbrev pub invariant-loop-pair : goal.invariant-loop-pair
invariant-loop-pair l = Gathered l.found l.set.keys l.names (take l.pair-index l.pairs)
