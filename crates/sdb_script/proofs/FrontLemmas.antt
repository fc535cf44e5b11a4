-- Fronts of a script's bytes.
use Rattle.std.proofs.Common.{◌≡◌, ℕ, ◌+◌, ◌<◌, List, length, take, ap, sym, get_or}
use Rattle.std.proofs.lemmas.Bool.{lt-leb}
use Rattle.sdb_script.specs.Events as event
use Rattle.sdb_script.specs.Fronts.{Whole, piece_front}

-- a piece with the LF behind it
pub piece_whole : (conn moment size at : ℕ) (rest bytes : List ℕ) → size < length rest → get_or rest size 0 ≡ 10 → bytes ≡ take size rest
    → piece_front conn moment size at rest ≡ Whole (event.Piece conn moment bytes) (at + size + 1)
piece_whole conn moment size at rest bytes inside ends same =
    rw (lt-leb (length rest) size inside, ends) (ap (λ b. Whole (event.Piece conn moment b) (at + size + 1)) (sym same))
