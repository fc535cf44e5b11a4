-- How a pattern is matched by one scan forward.
use Rattle.std.specs.Prelude.{ℕ, suc, ◌<◌, Bool, true, false, List, [], ◌∷◌, length, drop, Option, Some, None, if◌then◌else◌}
use Rattle.std.specs.Option.{option_map}
use Rattle.sdb_parse.specs.declared.letters.Letter.{Letter}
use Rattle.sdb_parse.specs.declared.letters.Letter.TheVariants as at
use Rattle.sdb_parse.specs.declared.matching.Walk.{Walk}
use Rattle.sdb_parse.specs.declared.matching.Walk.TheVariants as walk_at
use Rattle.sdb_parse.specs.Patterns.{begins_with, letters}

-- what is found where a text is compared with the first plain part: it differs, the pattern ends, or a `%` follows
pub data Step : Type 0 where
  Differs : Step
  Ends : List ℕ → Step
  Run : List Letter → List ℕ → Step

-- a walk of the program as contracts see it
abbrev pub seen : Walk → Step
seen walk_at.Differs = Differs
seen (walk_at.Ends rest) = Ends rest.now
seen (walk_at.Run pattern rest) = Run (letters pattern.now) rest.now

-- the text doesn't begin so
abbrev pub differs : Walk → Bool
differs walk_at.Differs = true
differs _ = false

-- what is left of the pattern is shorter
abbrev pub IsShorter : Walk → List ℕ → Type 0
IsShorter (walk_at.Run left rest) pattern = length left.now < length pattern
IsShorter _ pattern = Unit {0}

-- a byte that the letter asks for, and what is found after it
abbrev pub byte_step : ℕ → (List ℕ → Step) → List ℕ → Step
byte_step b next text = if begins_with b text then next (drop 1 text) else Differs

-- what is found where a text is compared with the first part
unfoldable pub walk : List Letter → List ℕ → Step
walk [] = Ends
walk (at.Run ∷ ls) = Run ls
walk (at.Byte b ∷ ls) = byte_step b (walk ls)

-- the first step where it doesn't differ, else the other
abbrev pub or_else : Step → Step → Step
or_else Differs other = other
or_else (Ends rest) other = Ends rest
or_else (Run ls rest) other = Run ls rest

-- the walk from the first place where it doesn't differ
unfoldable pub first_place : List Letter → List ℕ → Step
first_place ls [] = walk ls []
first_place ls (b ∷ bs) = or_else (walk ls (b ∷ bs)) (first_place ls bs)

-- how many bytes letters stand for that have no `%`
unfoldable pub plain_len : List Letter → Option ℕ
plain_len [] = Some 0
plain_len (at.Run ∷ ls) = None
plain_len (at.Byte b ∷ ls) = option_map suc (plain_len ls)
