-- What the functions that read a line give. The grammar is in `File`.
use Rattle.std.specs.Prelude.{◌≡◌, ℕ, ◌+◌, Bool, ◌&&◌, ◌==◌, nat_lt, Result, Ok, Err, List, [], ◌∷◌, ◌++◌, length, Option, Some, None, if◌then◌else◌}
use Rattle.std.specs.Char.{is_ascii_alphanumeric}
use Rattle.std.specs.List.{before_first, after_first, position_or_len}
use Rattle.sdb_base.specs.Decimal.{decimal_of}
use Rattle.sdb_base.specs.Options.{◌>>=◌}
use Rattle.sdb_base.specs.Results.{and_then}
use Rattle.sdb_keys.specs.declared.keys.Key.{Key}
use Rattle.sdb_keys.specs.declared.fault.KeyFault.{KeyFault}
use Rattle.sdb_keys.specs.declared.fault.KeyFault.TheVariants as variant
use Rattle.sdb_base.specs.Ascii.{space}
use Rattle.sdb_keys.specs.File.{is_word, is_secret_byte, is_skipped}
use Rattle.sdb_keys.specs.Keys.{is_known}

-- the byte between the words of a line
abbrev pub is_space : ℕ → Bool
is_space b = b == space

-- what stands before the first space and after it
unfoldable pub split_at_space : List ℕ → Option (List ℕ × List ℕ)
split_at_space line =
    if nat_lt (position_or_len is_space line) (length line)
    then Some (before_first is_space line, after_first is_space line)
    else None

-- an account number
unfoldable pub account_of : List ℕ → Option ℕ
account_of number = do
  account ← decimal_of number 16
  if account == 0 then None else Some account

-- a key id, and a secret
unfoldable pub words_of : List ℕ → Option (List ℕ × List ℕ)
words_of text = do
  words ← split_at_space text
  if is_word is_ascii_alphanumeric words.0 && is_word is_secret_byte words.1 then Some words else None

-- the key of this account, id and secret
abbrev pub key_with : ℕ → List ℕ → List ℕ → Key
key_with account id secret = record { account = account; id = id; secret = secret }

-- the key that a line spells, where it spells one
unfoldable pub key_of : List ℕ → Option Key
key_of line = do
  first ← split_at_space line
  account ← account_of first.0
  words ← words_of first.1
  Some (key_with account words.0 words.1)

-- what reading lines gives: keys, or the first fault
abbrev pub Answer : Type 0
Answer = Result (List Key) KeyFault

-- the keys after a key more
abbrev pub with_key : ℕ → List Key → Option Key → Answer
with_key number keys None = Err (variant.BadLine number)
with_key number keys (Some key) =
    if is_known keys key.id then Err (variant.Doubled number)
    else (if nat_lt 63 (length keys) then Err (variant.TooMany number) else Ok (keys ++ key ∷ []))

-- the keys after a line
unfoldable pub with_line : ℕ → List Key → List ℕ → Answer
with_line number keys line =
    if is_skipped line then Ok keys else with_key number keys (key_of line)

-- the keys after lines
unfoldable pub with_lines : ℕ → List Key → List (List ℕ) → Answer
with_lines number keys [] = Ok keys
with_lines number keys (line ∷ lines) =
    and_then (with_line number keys line) (λ more. with_lines (number + 1) more lines)

-- a fault is that of the answer; want of memory says nothing
abbrev pub IsFaultOf : Answer → KeyFault → Type 0
IsFaultOf answer variant.OutOfMemory = Unit {0}
IsFaultOf answer (variant.BadLine number) = answer ≡ Err (variant.BadLine number)
IsFaultOf answer (variant.Doubled number) = answer ≡ Err (variant.Doubled number)
IsFaultOf answer (variant.TooMany number) = answer ≡ Err (variant.TooMany number)
