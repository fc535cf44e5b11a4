-- The parameters of a form (`application/x-www-form-urlencoded`: URL Standard, section 5.1).
use Rattle.std.specs.Prelude.{◌≡◌, ◌≢◌, ℕ, ◌+◌, ◌*◌, ◌<◌, Bool, true, false, ◌==◌, ◌&&◌, List, [], ◌∷◌, length, take, slice_index_or, All, Contains, IsUtf8}
use Rattle.std.specs.List.{AllZip}
use Rattle.std.specs.Map.{keys_of}
use Rattle.std.specs.Char.{digit_value, is_digit}
use Rattle.sdb_base.specs.Ascii.{percent, plus, space}
use Rattle.sdb_base.specs.Pairs.{HasDistinctNames}
use Rattle.form_urlencoded.specs.Form.{raw_pairs}

-- a `%` and two hexadecimal digits stand at the front
abbrev pub begins_escape : List ℕ → Bool
begins_escape (b ∷ high ∷ low ∷ rest) = b == percent && is_digit high 16 && is_digit low 16
begins_escape (b ∷ c ∷ []) = false
begins_escape (b ∷ []) = false
begins_escape [] = false

-- The first list is a raw text, the second the bytes that it stands for. Both are cut into the
-- same number of units: a `+` is a space, a `%` with two hexadecimal digits is that byte, and
-- any other byte is itself.
pub data Decoded : List ℕ → List ℕ → Type 0 where
  empty : Decoded [] []
  plus_sign : (b : ℕ) (raw bytes : List ℕ) → b ≡ plus → Decoded raw bytes → Decoded (b ∷ raw) (space ∷ bytes)
  escape : (b high low : ℕ) (raw bytes : List ℕ) → begins_escape (b ∷ high ∷ low ∷ raw) ≡ true
      → Decoded raw bytes → Decoded (b ∷ high ∷ low ∷ raw) ((16 * digit_value high + digit_value low) ∷ bytes)
  itself : (b : ℕ) (raw bytes : List ℕ) → b ≢ plus → begins_escape (b ∷ raw) ≡ false
      → Decoded raw bytes → Decoded (b ∷ raw) (b ∷ bytes)

-- the piece's raw name and raw value stand for the pair
pub record Decodes (piece pair : List ℕ × List ℕ) : Type 0 where
  pub name : Decoded piece.0 pair.0
  pub value : Decoded piece.1 pair.1

-- The pairs are those of the form's pieces. A piece stands between two `&`, isn't empty, and is
-- cut at its first `=`; one without `=` has an empty value.
abbrev pub HasPairs : List ℕ → List (List ℕ × List ℕ) → Type 0
HasPairs form pairs = AllZip Decodes (raw_pairs form) pairs

-- name and value are UTF-8
abbrev pub IsTextPair : List ℕ × List ℕ → Type 0
IsTextPair pair = IsUtf8 pair.0 × IsUtf8 pair.1

-- the form's pairs, where they are parameters: all are UTF-8, and no name stands twice
pub record IsParams (form : List ℕ) (params : List (List ℕ × List ℕ)) : Type 0 where
  pub pairs : HasPairs form params
  pub texts : All IsTextPair params
  pub distinct : HasDistinctNames params

-- the name or value at this place isn't UTF-8
abbrev pub IsSpoiled : List (List ℕ × List ℕ) → ℕ → Type 0
IsSpoiled pairs place =
    (place < length pairs) × (¬ (IsTextPair (slice_index_or pairs place ([], []))))

-- the name at this place stands earlier too
abbrev pub IsRepeat : List (List ℕ) → ℕ → Type 0
IsRepeat names place =
    (place < length names) × Contains (take place names) (slice_index_or names place [])

-- the least place of which the fact holds
pub record IsFirst (Holds : ℕ → Type 0) (place : ℕ) : Type 0 where
  pub holds : Holds place
  pub least : (earlier : ℕ) → earlier < place → ¬ (Holds earlier)

-- the form's first piece that isn't UTF-8
pub record IsFirstNotUtf8 (form : List ℕ) (place : ℕ) : Type 0 where
  pub pairs : List (List ℕ × List ℕ)
  pub are_pairs : HasPairs form pairs
  pub first : IsFirst (IsSpoiled pairs) place

-- all of the form is UTF-8, and this is its first piece whose name stands earlier
pub record IsFirstRepeated (form : List ℕ) (place : ℕ) : Type 0 where
  pub pairs : List (List ℕ × List ℕ)
  pub are_pairs : HasPairs form pairs
  pub texts : All IsTextPair pairs
  pub first : IsFirst (IsRepeat (keys_of pairs)) place
