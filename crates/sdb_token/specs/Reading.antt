-- The position that a token stands for, computed.
use Rattle.std.specs.Prelude.{ℕ, Bool, true, false, List, [], ◌∷◌, take, drop, Option, None, Some, ok_or, option_and_then, Result, Ok, Err, if◌then◌else◌}
use Rattle.std.specs.Result.{result_ok}
use Rattle.std.specs.Str.{bytes_eq}
use Rattle.base64.specs.Engines.{standard}
use Rattle.base64.specs.GeneralPurpose.{decode_of}
use Rattle.sdb_format.specs.Readers.{Reading, Reader, then_at, seen_at}
use Rattle.sdb_format.specs.Numbers.{byte_in}
use Rattle.sdb_format.specs.Letters.{text_in}
use Rattle.sdb_tables.specs.declared.refusal.Refusal.{Refusal}
use Rattle.sdb_tables.specs.declared.refusal.Refusal.TheVariants.{InvalidNextToken}
use Rattle.sdb_token.specs.declared.position.Position.{Position}

-- no key, which its byte says
abbrev pub no_key : ℕ → Option (List ℕ)
no_key tag = None

-- the key behind its byte
abbrev pub key_of : ℕ × List ℕ → Option (List ℕ)
key_of x = Some x.1

-- a key where one is wanted, and none where none is
abbrev pub key_at : Bool → Reader (Option (List ℕ))
key_at false = seen_at no_key (byte_in 0 0)
key_at true = seen_at key_of (then_at (byte_in 1 1) (λ tag. text_in 0 1024))

-- the position of a key and a name
abbrev pub position_of : Option (List ℕ) × List ℕ → Position
position_of x = record { key = x.0; name = x.1 }

-- a position
abbrev pub position_at : Bool → Reader Position
position_at keyed = seen_at position_of (then_at (key_at keyed) (λ key. text_in 1 1024))

-- a value behind which nothing stands
abbrev pub alone : {A : Type 0} → A → List ℕ → Option A
alone x [] = Some x
alone x (b ∷ rest) = None

-- what the whole of the bytes reads as
abbrev pub whole_of : {A : Type 0} → Reading A → Option A
whole_of (Ok x) = alone x.0 x.1
whole_of (Err fault) = None

-- the position in the bytes of a token of this digest
abbrev pub position_in : List ℕ → Bool → List ℕ → Option Position
position_in digest keyed bytes =
    if bytes_eq (take 33 bytes) (1 ∷ digest) then whole_of (position_at keyed (drop 33 bytes)) else None

-- the bytes that a text is the padded standard base64 of (RFC 4648)
unfoldable pub decoded : List ℕ → Option (List ℕ)
decoded text = result_ok (decode_of standard text)

-- the position whose token a text is, for this digest and with a key where one is wanted
abbrev pub token_position : List ℕ → Bool → List ℕ → Result Position Refusal
token_position digest keyed text = ok_or (option_and_then (position_in digest keyed) (decoded text)) InvalidNextToken
