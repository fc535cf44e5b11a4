-- The text of events and of answers: records, each ending with an LF.
use Rattle.std.specs.Prelude.{ℕ, List, [], ◌∷◌, ◌++◌, length, decimal}
use Rattle.std.specs.List.{flat_map}
use Rattle.sdb_base.specs.Ascii.{line_feed, space}
use Rattle.sdb_script.specs.Events.{Event, Opened, Piece, Ended, Commit, Work}
use Rattle.sdb_script.specs.Letters.{letter_c, letter_d, letter_e, letter_o, letter_s, letter_w, letter_x}

-- the record of an event: a line, and after that of a piece its bytes
unfoldable pub spelled : Event → List ℕ
spelled (Opened conn) = letter_o ∷ space ∷ decimal conn ++ line_feed ∷ []
spelled (Piece conn moment bytes) =
    letter_d ∷ space ∷ decimal conn ++ space ∷ decimal moment ++ space ∷ decimal (length bytes) ++ line_feed ∷ bytes ++ line_feed ∷ []
spelled (Ended conn) = letter_e ∷ space ∷ decimal conn ++ line_feed ∷ []
spelled Commit = letter_c ∷ line_feed ∷ []
spelled Work = letter_w ∷ line_feed ∷ []

-- the script of events
abbrev pub script_of : List Event → List ℕ
script_of events = flat_map spelled events

-- the record of bytes that are sent on a connection
abbrev pub sent_record : (conn : ℕ) → List ℕ → List ℕ
sent_record conn bytes = letter_s ∷ space ∷ decimal conn ++ space ∷ decimal (length bytes) ++ line_feed ∷ bytes ++ line_feed ∷ []

-- the record of a connection that the server closes or refuses
abbrev pub closed_record : (conn : ℕ) → List ℕ
closed_record conn = letter_x ∷ space ∷ decimal conn ++ line_feed ∷ []
