-- Bytes that are held in a buffer, and what one read puts behind them.
use Rattle.std.specs.Prelude.{◌≡◌, ℕ, ◌≤◌, List, ◌++◌, length}
use Rattle.std.specs.declared.option.Option.{Option}
use Rattle.std.specs.Io.KnownBytes.{Consumes, IsAtEnd}

-- the source gave `count` bytes, at most so many, which stand behind those held before; none is the end of the input
abbrev pub Took : (most : ℕ) → (old new : List ℕ) → (left rest : Option (List ℕ)) → (count : ℕ) → Type 0
Took most old new left rest count =
    (given : List ℕ) × (length given ≡ count) × (count ≤ most) × (new ≡ old ++ given) × Consumes left rest given × (count ≡ 0 → IsAtEnd rest)

-- the buffer has so many bytes, once it is there
abbrev pub buffer_size : ℕ
buffer_size = 262144

-- the bytes that are held, how many bytes of the buffer stand before them, and how many it has
pub record Held : Type 0 where
  pub bytes : List ℕ
  pub before : ℕ
  pub size : ℕ
