-- Names of parameters that are parts of numbered entries: `Attribute.3.Name`, `Item.0.Attribute.12.Value`.
use Rattle.std.specs.Prelude.{ℕ, ◌+◌, List, [], ◌∷◌, length, Bool, ◌||◌, ◌==◌, nat_lt, Option, Some, None, is_some, option_map, option_and_then, if◌then◌else◌, codes}
use Rattle.std.specs.List.{position_or_len, before_first, after_first}
use Rattle.std.specs.Str.{bytes_eq}
use Rattle.sdb_base.specs.Decimal.{decimal_of}
use Rattle.sdb_action.specs.declared.numbers.EntryKind.{EntryKind}
use Rattle.sdb_action.specs.declared.numbers.EntryKind.TheVariants.{Attribute, AttributeName, Expected, Item}

-- a part of an entry: the entry's place, which is 0 without a number and else the number and 1, and the part's name
abbrev pub Part : Type 0
Part = ℕ × List ℕ

-- what follows a beginning, where the text begins so
unfoldable pub after_prefix : List ℕ → List ℕ → Option (List ℕ)
after_prefix [] text = Some text
after_prefix (c ∷ cs) [] = None
after_prefix (c ∷ cs) (d ∷ ds) = if c == d then after_prefix cs ds else None

-- the place of the entry with that number: `0`, or digits without a leading zero, at most 9999
unfoldable pub place_of : List ℕ → Option ℕ
place_of digits = option_map (λ number. number + 1) (decimal_of digits 9999)

-- the byte between a name's words
abbrev pub is_point : ℕ → Bool
is_point c = c == 46

-- a text cut at its first point
abbrev pub cut_at_point : List ℕ → Option (List ℕ × List ℕ)
cut_at_point text =
    if nat_lt (position_or_len is_point text) (length text) then Some (before_first is_point text, after_first is_point text) else None

-- a part with the place of its entry, where its digits name one
abbrev pub at_place : List ℕ → Option ℕ → Option Part
at_place part place = option_map (λ n. (n, part)) place

-- `N.part`
unfoldable pub numbered : List ℕ → Option Part
numbered text = option_and_then (λ cut. at_place cut.1 (place_of cut.0)) (cut_at_point text)

-- the part, where it is one of those that entries have
abbrev pub known : (List ℕ → Bool) → Option Part → Option Part
known test None = None
known test (Some part) = if test part.1 then Some part else None

-- the parts of an attribute
abbrev pub is_attribute_part : List ℕ → Bool
is_attribute_part part = bytes_eq part (codes "Name") || bytes_eq part (codes "Value") || bytes_eq part (codes "Replace")

-- the parts of an expectation
abbrev pub is_expected_part : List ℕ → Bool
is_expected_part part = bytes_eq part (codes "Name") || bytes_eq part (codes "Value") || bytes_eq part (codes "Exists")

-- `Attribute.N.Name`, `.Value` and `.Replace`
unfoldable pub attribute_part : List ℕ → Option Part
attribute_part name = known is_attribute_part (option_and_then numbered (after_prefix (codes "Attribute.") name))

-- the name of the item, or a part of one of its attributes
abbrev pub is_item_part : List ℕ → Bool
is_item_part part = bytes_eq part (codes "ItemName") || is_some (attribute_part part)

-- `Item.N.ItemName`, and `Item.N.` before a part of an attribute
unfoldable pub item_part : List ℕ → Option Part
item_part name = known is_item_part (option_and_then numbered (after_prefix (codes "Item.") name))

-- `AttributeName` alone, and `AttributeName.N`; the one part is called `Name`
unfoldable pub name_part : List ℕ → Option Part
name_part name =
    if bytes_eq name (codes "AttributeName") then Some (0, codes "Name")
    else at_place (codes "Name") (option_and_then place_of (after_prefix (codes "AttributeName.") name))

-- `Expected.Name`, `.Value` and `.Exists`, and the same with a number
abbrev pub expected_rest : List ℕ → Option Part
expected_rest rest = if is_expected_part rest then Some (0, rest) else known is_expected_part (numbered rest)

-- the part of an expectation that a parameter's name tells
unfoldable pub expected_part : List ℕ → Option Part
expected_part name = option_and_then expected_rest (after_prefix (codes "Expected.") name)

-- the part that a parameter of that name is, in a list of that kind
abbrev pub part_of : EntryKind → List ℕ → Option Part
part_of Attribute name = attribute_part name
part_of AttributeName name = name_part name
part_of Expected name = expected_part name
part_of Item name = item_part name
