-- What holds of all tokens.
use Rattle.std.specs.Prelude.{◌≡◌, ℕ, Bool, List, Ok}
use Rattle.std.specs.Str.{IsUtf8}
use Rattle.sdb_token.specs.declared.position.Position.{Position}
use Rattle.sdb_token.specs.Reading.{token_position}
use Rattle.sdb_token.specs.Tokens.{token, IsDigest, IsPosition, IsTokenOf}

-- a text is the token of one digest and one position at most
abbrev pub OneDigestAndPosition : Type 0
OneDigestAndPosition = (digest other : List ℕ) (position another : Position) → IsDigest digest → IsDigest other
    → IsPosition position → IsPosition another → token digest position ≡ token other another
    → (digest ≡ other) × (position ≡ another)

-- a token is read as its position
abbrev pub TokensAreRead : Type 0
TokensAreRead = (digest : List ℕ) (keyed : Bool) (position : Position) (text : List ℕ) → IsDigest digest
    → IsTokenOf digest keyed position text → token_position digest keyed text ≡ Ok position

-- only a token is read as a position
abbrev pub OnlyTokensAreRead : Type 0
OnlyTokensAreRead = (digest : List ℕ) (keyed : Bool) (position : Position) (text : List ℕ) → IsDigest digest → IsUtf8 text
    → token_position digest keyed text ≡ Ok position → IsTokenOf digest keyed position text
