use Rattle.std.proofs.Common.{◌≡◌, ℕ, ◌+◌, ◌≤◌, List, [], length}
use Rattle.sdb_keys.specs.declared.keys.Key.{Key}
use Rattle.sdb_keys.specs.File.{file_lines}
use Rattle.sdb_keys.specs.Reading.{with_lines}
use Rattle.sdb_keys.proofs.file.read_lines.Given as goal

-- the lines left give what all lines give, and their number fits
pub record GoesOn (text : List ℕ) (number : ℕ) (keys : List Key) (left : List (List ℕ)) : Type 0 where
  pub same : with_lines 1 [] (file_lines text) ≡ with_lines (number + 1) keys left
  pub small : number + length left ≤ length text

abbrev pub invariant-loop-line : goal.invariant-loop-line
invariant-loop-line l = GoesOn l.fn.text l.number l.keys l.line-iterator
