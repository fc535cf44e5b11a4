-- What stands inside the results of the actions that read.
use Rattle.std.specs.Prelude.{ℕ, List, [], ◌++◌, Option, Some, None, codes, decimal}
use Rattle.std.specs.List.{flat_map}
use Rattle.sdb_pairs.specs.declared.pair.Pair.{Pair}
use Rattle.sdb_pairs.specs.Listing.{ShownItem}
use Rattle.sdb_domain.specs.declared.metadata.Metadata.{Metadata}
use Rattle.sdb_reply.specs.Elements.{element, group}

unfoldable pub domain_name : List ℕ
domain_name = codes "DomainName"

unfoldable pub next_token : List ℕ
next_token = codes "NextToken"

unfoldable pub item_name : List ℕ
item_name = codes "Item"

unfoldable pub attribute_name : List ℕ
attribute_name = codes "Attribute"

unfoldable pub name_name : List ℕ
name_name = codes "Name"

unfoldable pub value_name : List ℕ
value_name = codes "Value"

unfoldable pub item_count : List ℕ
item_count = codes "ItemCount"

unfoldable pub item_names_size : List ℕ
item_names_size = codes "ItemNamesSizeBytes"

unfoldable pub attribute_name_count : List ℕ
attribute_name_count = codes "AttributeNameCount"

unfoldable pub attribute_names_size : List ℕ
attribute_names_size = codes "AttributeNamesSizeBytes"

unfoldable pub attribute_value_count : List ℕ
attribute_value_count = codes "AttributeValueCount"

unfoldable pub attribute_values_size : List ℕ
attribute_values_size = codes "AttributeValuesSizeBytes"

unfoldable pub timestamp : List ℕ
timestamp = codes "Timestamp"

-- the name of the item that tells a count
unfoldable pub counting_item : List ℕ
counting_item = codes "Domain"

-- the name of its attribute
unfoldable pub counting_attribute : List ℕ
counting_attribute = codes "Count"

-- a pair of an item
abbrev pub attribute : Pair → List ℕ
attribute pair = group attribute_name (element name_name pair.name ++ element value_name pair.value)

-- pairs, in their order
abbrev pub attributes : List Pair → List ℕ
attributes pairs = flat_map attribute pairs

-- an item with its pairs
abbrev pub item : ShownItem → List ℕ
item shown = group item_name (element name_name shown.name ++ attributes shown.pairs)

-- the token, where something is left
abbrev pub token : Option (List ℕ) → List ℕ
token None = []
token (Some text) = element next_token text

-- names of domains
abbrev pub domains : List (List ℕ) → Option (List ℕ) → List ℕ
domains names next = flat_map (element domain_name) names ++ token next

-- a page of items
abbrev pub items : List ShownItem → Option (List ℕ) → List ℕ
items shown next = flat_map item shown ++ token next

-- the item that tells a count: `Domain`, with the attribute `Count`
abbrev pub counted : ℕ → List ℕ
counted number =
    group item_name (element name_name counting_item ++ group attribute_name (element name_name counting_attribute ++ element value_name (decimal number)))

-- a count
abbrev pub count : ℕ → Option (List ℕ) → List ℕ
count number next = counted number ++ token next

-- an element that holds a number
abbrev pub number : List ℕ → ℕ → List ℕ
number name value = element name (decimal value)

-- the numbers of a domain, and the moment at which they were taken
abbrev pub metadata : Metadata → ℕ → List ℕ
metadata m moment =
    number item_count m.items ++ number item_names_size m.item_bytes ++ number attribute_name_count m.names
    ++ number attribute_names_size m.name_bytes ++ number attribute_value_count m.pairs
    ++ number attribute_values_size m.value_bytes ++ number timestamp moment
