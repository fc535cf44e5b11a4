-- The keys file.
use Rattle.std.specs.Prelude.{◌≡◌, ℕ, ◌+◌, ◌≤◌, Bool, true, false, ◌&&◌, ◌==◌, nat_le, List, [], ◌∷◌, ◌++◌, length, map, Some, Contains}
use Rattle.std.specs.Char.{is_ascii_alphanumeric}
use Rattle.std.specs.List.{IsDistinct, list_all}
use Rattle.std.specs.Str.{bytes_eq}
use Rattle.bstr.specs.Text.{lines_of, without_terminator}
use Rattle.sdb_base.specs.Ascii.{space, hash_sign}
use Rattle.sdb_base.specs.Decimal.{decimal_of}
use Rattle.sdb_keys.specs.declared.keys.Key.{Key}
use Rattle.sdb_keys.specs.Keys.{ids_of}

-- A line ends with a line feed, and loses it and one carriage return before it. What follows the
-- last line feed is a line too, and loses nothing.
abbrev pub file_lines : List ℕ → List (List ℕ)
file_lines text = map without_terminator (lines_of text)

-- empty lines and those that begin with `#` say nothing
abbrev pub is_skipped : List ℕ → Bool
is_skipped [] = true
is_skipped (b ∷ rest) = b == hash_sign

-- a printed ASCII byte but for the space
abbrev pub is_secret_byte : ℕ → Bool
is_secret_byte b = nat_le 0x21 b && nat_le b 0x7e

-- 1 to 128 bytes that pass a test
abbrev pub is_word : (ℕ → Bool) → List ℕ → Bool
is_word test word = nat_le 1 (length word) && nat_le (length word) 128 && list_all test word

-- an account number, a space, a key id, a space and a secret
pub record SpellsKey (line : List ℕ) (key : Key) : Type 0 where
  pub number : List ℕ
  pub spelled : line ≡ number ++ (space ∷ (key.id ++ (space ∷ key.secret)))
  pub account : decimal_of number 16 ≡ Some key.account
  pub account_counts : 1 ≤ key.account
  pub id : is_word is_ascii_alphanumeric key.id ≡ true
  pub secret : is_word is_secret_byte key.secret ≡ true

-- the keys are those of the lines that aren't skipped
pub data AreKeys : List (List ℕ) → List Key → Type 0 where
  none : AreKeys [] []
  skipped : (line : List ℕ) (lines : List (List ℕ)) (keys : List Key)
      → is_skipped line ≡ true → AreKeys lines keys → AreKeys (line ∷ lines) keys
  spelled : (line : List ℕ) (lines : List (List ℕ)) (key : Key) (keys : List Key)
      → is_skipped line ≡ false → SpellsKey line key → AreKeys lines keys
      → AreKeys (line ∷ lines) (key ∷ keys)

-- nothing is wrong with the lines: no id stands twice, and there are at most 64 keys
pub record AreRight (lines : List (List ℕ)) (keys : List Key) : Type 0 where
  pub are_keys : AreKeys lines keys
  pub distinct : IsDistinct bytes_eq (ids_of keys)
  pub few : length keys ≤ 64

-- the lines before this number, counted from 1, are right, and this one isn't skipped
pub record StandsAt (lines : List (List ℕ)) (number : ℕ) (keys : List Key) (line : List ℕ) : Type 0 where
  pub before : List (List ℕ)
  pub after : List (List ℕ)
  pub split : lines ≡ before ++ line ∷ after
  pub number_is : number ≡ length before + 1
  pub right : AreRight before keys
  pub counts : is_skipped line ≡ false

-- the first wrong line is no key
pub record IsBadLine (lines : List (List ℕ)) (number : ℕ) : Type 0 where
  pub keys : List Key
  pub line : List ℕ
  pub stands : StandsAt lines number keys line
  pub wrong : (key : Key) → ¬ (SpellsKey line key)

-- the first wrong line has the id of an earlier key
pub record IsDoubled (lines : List (List ℕ)) (number : ℕ) : Type 0 where
  pub keys : List Key
  pub line : List ℕ
  pub stands : StandsAt lines number keys line
  pub key : Key
  pub spells : SpellsKey line key
  pub known : Contains (ids_of keys) key.id

-- the first wrong line has a new key, and 64 keys stand before it
pub record IsOneTooMany (lines : List (List ℕ)) (number : ℕ) : Type 0 where
  pub keys : List Key
  pub line : List ℕ
  pub stands : StandsAt lines number keys line
  pub key : Key
  pub spells : SpellsKey line key
  pub new : ¬ (Contains (ids_of keys) key.id)
  pub full : length keys ≡ 64
