-- What stands ahead of a place in a file, as far as it was read.
use Rattle.std.specs.Prelude.{◌≡◌, ℕ, ◌+◌, List, ◌++◌, length, drop}
use Rattle.sdb_journal.specs.declared.window.Window.{Window}

-- the bytes that were read and aren't passed yet
abbrev pub ahead : Window → List ℕ
ahead window = drop window.start window.bytes.items

-- these bytes stand at that place of the file, and so many more behind them
pub record Shows (bytes : List ℕ) (place left : ℕ) (file : List ℕ) : Type 0 where
  pub there : drop place file ≡ bytes ++ drop (place + length bytes) file
  pub all : place + length bytes + left ≡ length file
