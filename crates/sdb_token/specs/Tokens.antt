-- The position after which the next page begins, and its token.
use Rattle.std.specs.Prelude.{◌≡◌, ℕ, Bool, List, [], ◌∷◌, ◌++◌, length, Option, None, Some, IfSome}
use Rattle.std.specs.Option.{is_some}
use Rattle.base64.specs.Engines.{standard}
use Rattle.base64.specs.GeneralPurpose.{IsBytes, encode_of}
use Rattle.sdb_format.specs.Letters.{text_bytes, IsTextWithin}
use Rattle.sdb_token.specs.declared.position.Position.{Position}

-- a key behind the byte that says that there is one, or the byte that says that there is none
abbrev pub key_bytes : Option (List ℕ) → List ℕ
key_bytes None = 0 ∷ []
key_bytes (Some key) = 1 ∷ text_bytes key

-- a position's key and name
abbrev pub position_bytes : Position → List ℕ
position_bytes position = key_bytes position.key ++ text_bytes position.name

-- the bytes of a token: the version of its layout, the digest, and the position
abbrev pub token_bytes : List ℕ → Position → List ℕ
token_bytes digest position = 1 ∷ (digest ++ position_bytes position)

-- the padded standard base64 of bytes (RFC 4648)
unfoldable pub in_base64 : List ℕ → List ℕ
in_base64 bytes = encode_of standard bytes

-- the token of a digest and a position
abbrev pub token : List ℕ → Position → List ℕ
token digest position = in_base64 (token_bytes digest position)

-- a digest has 32 bytes
pub record IsDigest (digest : List ℕ) : Type 0 where
  pub size : length digest ≡ 32
  pub bytes : IsBytes digest

-- a key has at most 1,024 bytes and a name 1 to 1,024, both in UTF-8
pub record IsPosition (position : Position) : Type 0 where
  pub key_is : IfSome position.key (IsTextWithin 0 1024)
  pub name_is : IsTextWithin 1 1024 position.name

-- the text is the token of this digest and position, which has a key exactly where one is wanted
pub record IsTokenOf (digest : List ℕ) (keyed : Bool) (position : Position) (text : List ℕ) : Type 0 where
  pub lawful : IsPosition position
  pub keyed_is : is_some position.key ≡ keyed
  pub text_is : text ≡ token digest position
