-- The commands that words name.
use Rattle.std.specs.Prelude.{◌≡◌, List, ℕ, Option, None}
use Rattle.sdb_words.specs.Lists.{command_of}
use Rattle.sdb_words.specs.declared.command.Command.{Command}

-- the command that words name
abbrev pub asks : List (List ℕ) → Option Command
asks words = command_of words

-- the words name none
abbrev pub IsOther : List (List ℕ) → Type 0
IsOther words = asks words ≡ None
