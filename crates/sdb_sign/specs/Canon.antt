-- The text that is signed (signature version 2).
use Rattle.std.specs.Prelude.{ℕ, ◌+◌, ◌/◌, ◌%◌, Bool, true, false, Option, Some, None, not, ◌||◌, ◌==◌, nat_lt, List, [], ◌∷◌, ◌++◌, codes, map, filter, if◌then◌else◌}
use Rattle.std.specs.Char.{is_ascii_alphanumeric, is_ascii_uppercase, to_ascii_lowercase}
use Rattle.std.specs.declared.cmp.Ordering.{Ordering}
use Rattle.std.specs.declared.cmp.Ordering.TheVariants.{Less, Equal, Greater}
use Rattle.std.specs.List.{flat_map, fold, join_by}
use Rattle.std.specs.BTreeMap.{insert_entry}
use Rattle.std.specs.Str.{bytes_eq}
use Rattle.sdb_base.specs.Ascii.{line_feed, percent, slash, equals_sign, ampersand}
use Rattle.sdb_base.specs.declared.verb.Verb.{Verb}
use Rattle.sdb_base.specs.declared.verb.Verb.TheVariants.{Get, Post}
use Rattle.sdb_base.specs.Pairs.{NamedValues}
use Rattle.sdb_base.specs.Texts.{text_cmp}

-- the unreserved characters, `A-Z a-z 0-9 - . _ ~` (RFC 3986, section 2.3)
abbrev pub is_unreserved : ℕ → Bool
is_unreserved b = is_ascii_alphanumeric b || b == 45 || b == 46 || b == 95 || b == 126

-- the upper-case hexadecimal digit of a number below 16
abbrev pub hex_digit : ℕ → ℕ
hex_digit n = if nat_lt n 10 then 48 + n else 55 + n

-- an unreserved byte stays, and any other is `%` and two hexadecimal digits
abbrev pub escaped_byte : ℕ → List ℕ
escaped_byte b =
    if is_unreserved b then b ∷ [] else percent ∷ hex_digit (b / 16) ∷ hex_digit (b % 16) ∷ []

-- a text with the escapes of the canonical query
unfoldable pub escaped : List ℕ → List ℕ
escaped text = flat_map escaped_byte text

-- `Signature`
unfoldable pub signature_name : List ℕ
signature_name = codes "Signature"

-- every parameter is signed but the signature
abbrev pub is_signed_name : List ℕ → Bool
is_signed_name name = not (bytes_eq name signature_name)

-- the same of a parameter
abbrev pub is_signed : List ℕ × List ℕ → Bool
is_signed param = is_signed_name param.0

-- a name is below another
abbrev pub is_less : Ordering → Bool
is_less Less = true
is_less Equal = false
is_less Greater = false

-- a name stands after the one before it, or is the first
abbrev pub is_after : Option (List ℕ) → List ℕ → Bool
is_after None name = true
is_after (Some before) name = is_less (text_cmp before name)

-- the last signed name after a name more, or nothing where that one doesn't stand after it
abbrev pub after_name : Option (List ℕ) → List ℕ → Option (Option (List ℕ))
after_name last name =
    if is_signed_name name then (if is_after last name then Some (Some name) else None) else Some last

-- no ASCII letter in upper case
abbrev pub is_lower : ℕ → Bool
is_lower b = not (is_ascii_uppercase b)

-- a parameter put among others that rise by name, where they go on rising
abbrev pub with_param : NamedValues → List ℕ × List ℕ → NamedValues
with_param rising param = insert_entry text_cmp rising param.0 param.1

-- parameters whose names are distinct, rising by name
unfoldable pub rising : NamedValues → NamedValues
rising params = fold with_param [] params

-- the parameters that are signed, rising by name
abbrev pub signed_params : NamedValues → NamedValues
signed_params params = rising (filter is_signed params)

-- `name=value`, with escapes
abbrev pub written : List ℕ × List ℕ → List ℕ
written param = escaped param.0 ++ equals_sign ∷ escaped param.1

-- what parameters bring that are left: before the first of all there is no `&`
abbrev pub left_of : Bool → NamedValues → List ℕ
left_of true params = join_by written (ampersand ∷ []) params
left_of false params = flat_map (λ param. (ampersand ∷ []) ++ written param) params

-- the canonical query: the signed parameters in order, joined by `&`
abbrev pub canonical_query : NamedValues → List ℕ
canonical_query params = join_by written (ampersand ∷ []) (signed_params params)

-- the first line of the text to sign
abbrev pub verb_word : Verb → List ℕ
verb_word Get = codes "GET"
verb_word Post = codes "POST"

-- the text to sign: the verb, the host without regard to case, the path `/` and the canonical query, each
-- but the last with a line feed
abbrev pub text_to_sign : Verb → List ℕ → NamedValues → List ℕ
text_to_sign verb host params =
    verb_word verb ++ line_feed ∷ (map to_ascii_lowercase host
    ++ line_feed ∷ slash ∷ line_feed ∷ canonical_query params)
