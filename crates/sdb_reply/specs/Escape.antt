-- How texts stand in a body (Extensible Markup Language 1.0, section 2.2 and 2.4; RFC 4648, section 4).
use Rattle.std.specs.Prelude.{ℕ, List, [], ◌∷◌, ◌++◌, Bool, ◌&&◌, ◌||◌, ◌==◌, nat_lt, codes, if◌then◌else◌}
use Rattle.std.specs.List.{flat_map, list_any}
use Rattle.std.specs.Str.{chars}
use Rattle.base64.specs.GeneralPurpose.{encode_of}
use Rattle.base64.specs.Engines.{standard}

-- a character that XML can't hold: U+0000 to U+0008, U+000B, U+000C, U+000E to U+001F, U+FFFE and U+FFFF
abbrev pub is_unwritable : ℕ → Bool
is_unwritable c = nat_lt c 9 || (c == 11) || (c == 12) || (nat_lt 13 c && nat_lt c 32) || (c == 65534) || (c == 65535)

-- whether a text holds such a character
abbrev pub has_unwritable : List ℕ → Bool
has_unwritable text = list_any is_unwritable (chars text)

-- a byte that markup would take as its own, or that a reader would change
abbrev pub is_special : ℕ → Bool
is_special b = (b == 38) || (b == 60) || (b == 62) || (b == 13)

unfoldable pub ampersand : List ℕ
ampersand = codes "&amp;"

unfoldable pub less : List ℕ
less = codes "&lt;"

unfoldable pub greater : List ℕ
greater = codes "&gt;"

unfoldable pub carriage_return : List ℕ
carriage_return = codes "&#13;"

-- what stands for a byte
abbrev pub escape_of : ℕ → List ℕ
escape_of b =
    if b == 38 then ampersand else (if b == 60 then less else (if b == 62 then greater else (if b == 13 then carriage_return else b ∷ [])))

-- a text with its escapes
abbrev pub escaped : List ℕ → List ℕ
escaped text = flat_map escape_of text

unfoldable pub encoding : List ℕ
encoding = codes " encoding=\"base64\">"

-- the end of a start tag, and the text: with its escapes, or as base64 of its bytes where XML can't hold it
abbrev pub content : List ℕ → List ℕ
content text = if has_unwritable text then encoding ++ encode_of standard text else 62 ∷ escaped text
