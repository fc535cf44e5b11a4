-- Bytes with room for more.
use Rattle.std.specs.Prelude.{ℕ, List}

-- the bytes, and how many more can be appended with no memory
pub record Buffer : Type 0 where
  pub bytes : List ℕ
  pub spare : ℕ
