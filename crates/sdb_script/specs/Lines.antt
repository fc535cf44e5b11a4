-- The line of a record: what stands before its first LF.
use Rattle.std.specs.Prelude.{ℕ, ◌-◌, ◌^◌, ◌≤◌, Bool, true, ◌==◌, nat_lt, List, [], ◌∷◌, Option, Some, None, if◌then◌else◌}
use Rattle.std.specs.Option.{option_map}
use Rattle.std.specs.List.{list_any}
use Rattle.std.specs.Ordering.{nat_cmp}
use Rattle.std.specs.BTreeMap.{is_at}
use Rattle.sdb_base.specs.Ascii.{space}
use Rattle.sdb_base.specs.Decimal.{decimal_of}
use Rattle.sdb_base.specs.Options.{◌>>=◌}
use Rattle.sdb_keys.specs.Reading.{split_at_space}
use Rattle.sdb_script.specs.Connections.{Connections}
use Rattle.sdb_script.specs.Letters.{letter_c, letter_d, letter_e, letter_o, letter_w}
use Rattle.sdb_script.specs.declared.line.Line.{Line}
use Rattle.sdb_script.specs.declared.line.Line.TheVariants.{Opened, Piece, Ended, Commit, Work}

-- the greatest number of a connection
abbrev pub most_conn : ℕ
most_conn = 2 ^ 32 - 1

-- the last second of the year 9999
abbrev pub most_moment : ℕ
most_moment = 253402300799

-- a piece has so many bytes at most
abbrev pub most_piece : ℕ
most_piece = 65536

-- a decimal number from 1 to `most`
abbrev pub counted_of : List ℕ → ℕ → Option ℕ
counted_of text most = do
  number ← decimal_of text most
  if number == 0 then None else Some number

-- `c t n`: a connection, a moment and a number of bytes
unfoldable pub piece_of : List ℕ → Option Line
piece_of text = do
  first ← split_at_space text
  second ← split_at_space first.1
  conn ← counted_of first.0 most_conn
  moment ← decimal_of second.0 most_moment
  size ← counted_of second.1 most_piece
  Some (Piece conn moment size)

-- what a letter says of the numbers after it
abbrev pub numbered_line : ℕ → List ℕ → Option Line
numbered_line letter text =
    if letter == letter_o then option_map Opened (counted_of text most_conn)
    else (if letter == letter_e then option_map Ended (counted_of text most_conn)
    else (if letter == letter_d then piece_of text else None))

-- what a letter alone says
abbrev pub bare_line : ℕ → Option Line
bare_line letter = if letter == letter_c then Some Commit else (if letter == letter_w then Some Work else None)

-- what a line says, where it is that of a record: `O c`, `E c`, `C`, `W` or `D c t n`
unfoldable pub line_of : List ℕ → Option Line
line_of [] = None
line_of (letter ∷ []) = bare_line letter
line_of (letter ∷ blank ∷ text) = if blank == space then numbered_line letter text else None

-- the connection is open
abbrev pub is_open : Connections → ℕ → Bool
is_open known conn = list_any (is_at (nat_cmp conn)) known.open_numbers

-- a connection that is opened has a greater number than each before it, and one of which something is told is open
abbrev pub may_follow : Connections → Line → Bool
may_follow known (Opened conn) = nat_lt known.greatest conn
may_follow known (Ended conn) = is_open known conn
may_follow known (Piece conn moment size) = is_open known conn
may_follow known Commit = true
may_follow known Work = true

-- a piece has at most so many bytes
abbrev pub IsSmall : Line → Type 0
IsSmall (Opened conn) = Unit {0}
IsSmall (Ended conn) = Unit {0}
IsSmall (Piece conn moment size) = size ≤ most_piece
IsSmall Commit = Unit {0}
IsSmall Work = Unit {0}
