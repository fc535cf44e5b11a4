-- How far the lines of a piece of input are answered.
use Rattle.std.specs.Prelude.{◌≡◌, ℕ, ◌+◌, ◌≤◌, List, ◌++◌, length}
use Rattle.sdb_cli.specs.Lines.{CutsLines, IsOneLine}
use Rattle.sdb_cli.specs.Plain.{Standing, Tells}

-- of the piece, what stands before the rest is answered by what was appended: with what answers the rest of the input it answers the whole
pub record Fed (before now : Standing) (old new piece rest : List ℕ) : Type 0 where
  pub text : List ℕ
  pub appended : new ≡ old ++ text
  pub told : (cut : List ℕ → List (List ℕ)) → CutsLines cut → (more after : List ℕ) → Tells cut now (rest ++ more) after → Tells cut before (piece ++ more) (text ++ after)
  pub held : IsOneLine now.held
  pub counted : now.number + length rest ≤ before.number + length piece
