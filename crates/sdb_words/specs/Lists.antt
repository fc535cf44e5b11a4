-- The lists of words that name a command.
use Rattle.std.specs.Prelude.{ℕ, List, [], ◌∷◌, zero, suc, Option, Some, None, option_map, option_and_then, if◌then◌else◌, codes}
use Rattle.std.specs.Str.{bytes_eq}
use Rattle.sdb_base.specs.Decimal.{decimal_of}
use Rattle.sdb_words.specs.declared.command.Command.{Command}
use Rattle.sdb_words.specs.declared.command.Command.TheVariants.{Bare, Replay, Serve, Check, Bench}

-- a number that isn't 0
abbrev pub above_zero : ℕ → Option ℕ
above_zero zero = None
above_zero (suc n) = Some (suc n)

-- the number from 1 to `most` that a word spells in decimal
abbrev pub number_within : (most : ℕ) → List ℕ → Option ℕ
number_within most word = option_and_then above_zero (decimal_of word most)

-- the command that one word names
abbrev pub alone : List ℕ → Option Command
alone word = if bytes_eq word (codes "bare") then Some Bare
    else if bytes_eq word (codes "replay") then Some Replay
    else if bytes_eq word (codes "check") then Some Check else None

-- the command that a word and a size name
abbrev pub with_size : (word size : List ℕ) → Option Command
with_size word size = if bytes_eq word (codes "bench") then option_map Bench (number_within 100 size) else None

-- the command that a word, a port and a number of turns name
abbrev pub with_port : (word port turns : List ℕ) → Option Command
with_port word port turns = if bytes_eq word (codes "serve")
    then option_and_then (λ p. option_map (Serve p) (number_within 4294967295 turns)) (number_within 65535 port) else None

-- the command that words name, where they are one of the five lists
abbrev pub command_of : List (List ℕ) → Option Command
command_of (word ∷ []) = alone word
command_of (word ∷ size ∷ []) = with_size word size
command_of (word ∷ port ∷ turns ∷ []) = with_port word port turns
command_of _ = None
