-- What stands at the front of a script's bytes.
use Rattle.std.specs.Prelude.{ℕ, ◌+◌, ◌==◌, nat_lt, nat_le, List, length, take, drop, slice_index, position, Option, Some, None, if◌then◌else◌}
use Rattle.sdb_base.specs.Ascii.{line_feed}
use Rattle.sdb_script.specs.Connections.{Connections}
use Rattle.sdb_script.specs.Events.{Event}
use Rattle.sdb_script.specs.Events as event
use Rattle.sdb_script.specs.Lines.{line_of, may_follow, most_piece}
use Rattle.sdb_script.specs.declared.line.Line.{Line}
use Rattle.sdb_script.specs.declared.line.Line.TheVariants.{Opened, Piece, Ended, Commit, Work}

-- the front of bytes: a whole record, with the number of its bytes; a record that is wrong; or too few bytes to judge
pub data Front : Type 0 where
  Whole : Event → (size : ℕ) → Front
  Wrong : Front
  Unjudged : Front

-- a line ends within so many bytes, its LF among them
abbrev pub most_line : ℕ
most_line = 32

-- bytes that can't be judged are so many at most: a line, and the bytes of a piece without the LF behind them
abbrev pub most_unjudged : ℕ
most_unjudged = most_line + most_piece

-- the piece of a head of `at` bytes with its LF: n bytes and an LF behind it
abbrev pub piece_front : (conn moment size at : ℕ) → List ℕ → Front
piece_front conn moment size at rest =
    if nat_le (length rest) size then Unjudged
    else (if slice_index rest size == line_feed then Whole (event.Piece conn moment (take size rest)) (at + size + 1) else Wrong)

-- the record of a line of `at` bytes with its LF
abbrev pub record_front : Line → (at : ℕ) → List ℕ → Front
record_front (Opened conn) at rest = Whole (event.Opened conn) at
record_front (Ended conn) at rest = Whole (event.Ended conn) at
record_front (Piece conn moment size) at rest = piece_front conn moment size at rest
record_front Commit at rest = Whole event.Commit at
record_front Work at rest = Whole event.Work at

-- the same, where the line is one that may stand here
abbrev pub line_front : Connections → Option Line → (at : ℕ) → List ℕ → Front
line_front known None at rest = Wrong
line_front known (Some line) at rest = if may_follow known line then record_front line at rest else Wrong

-- the front of bytes whose first line ends there; without an LF among the first 32 bytes they are wrong once they are so many
abbrev pub ended_front : Connections → List ℕ → Option ℕ → Front
ended_front known bytes None = if nat_lt (length bytes) most_line then Unjudged else Wrong
ended_front known bytes (Some end) = line_front known (line_of (take end bytes)) (end + 1) (drop (end + 1) bytes)

-- the front of the bytes that follow events
unfoldable pub front : Connections → List ℕ → Front
front known bytes = ended_front known bytes (position (λ b. b == line_feed) (take most_line bytes))
