-- What the value of a field has to be (SimpleDB Developer Guide, "API Reference").
use Rattle.std.specs.Prelude.{ℕ, List, length, map, Bool, false, ◌||◌, ◌&&◌, nat_le, codes, Option, Some, None}
use Rattle.std.specs.Char.{to_ascii_lowercase}
use Rattle.std.specs.Str.{bytes_eq, is_utf8}
use Rattle.sdb_base.specs.Decimal.{decimal_of}
use Rattle.sdb_base.specs.Names.{is_domain_name, is_name}
use Rattle.sdb_tables.specs.declared.kind.FieldKind.{FieldKind}
use Rattle.sdb_tables.specs.declared.kind.FieldKind.TheVariants.{Domain, Name, Flag, Number, Plain}

-- `true` or `false`, in any ASCII case
unfoldable pub is_flag : List ℕ → Bool
is_flag text =
    bytes_eq (map to_ascii_lowercase text) (codes "true") || bytes_eq (map to_ascii_lowercase text) (codes "false")

-- a number is there, and is no less than `least`
abbrev pub reaches : ℕ → Option ℕ → Bool
reaches least None = false
reaches least (Some number) = nat_le least number

-- a decimal number without leading zeros, from `least` to `most`
abbrev pub is_number : ℕ → ℕ → List ℕ → Bool
is_number least most text = reaches least (decimal_of text most)

-- a text of at most so many bytes, in UTF-8
abbrev pub is_plain : ℕ → List ℕ → Bool
is_plain most text = nat_le (length text) most && is_utf8 text

-- the text is of the kind
abbrev pub fits : FieldKind → List ℕ → Bool
fits Domain text = is_domain_name text
fits Name text = is_name text
fits Flag text = is_flag text
fits (Number least most) text = is_number least most text
fits (Plain most) text = is_plain most text
