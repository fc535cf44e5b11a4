-- The tables of fields: of each action, and of the entries of lists.
use Rattle.std.specs.Prelude.{ℕ, List, [], ◌∷◌, map, Bool, false, Some, None, Result, Ok, Err, codes, slice_index_or}
use Rattle.std.specs.Char.{to_ascii_lowercase}
use Rattle.std.specs.Str.{bytes_eq}
use Rattle.sdb_tables.specs.declared.kind.FieldKind.TheVariants.{Domain, Name, Flag, Number, Plain}
use Rattle.sdb_tables.specs.declared.refusal.Refusal.{Refusal}
use Rattle.sdb_tables.specs.declared.refusal.Refusal.TheVariants.{MissingParameter}
use Rattle.sdb_action.specs.declared.fields.Table.{Table}
use Rattle.sdb_action.specs.declared.fields.Table.TheVariants as table
use Rattle.sdb_tables.specs.Rules.{Field, Row, needed_row, optional_row}

-- CreateDomain, DeleteDomain, DomainMetadata, BatchPutAttributes and BatchDeleteAttributes
unfoldable pub domain_rows : List Row
domain_rows = needed_row (codes "DomainName") Domain ∷ []

-- PutAttributes and DeleteAttributes
unfoldable pub item_rows : List Row
item_rows = needed_row (codes "DomainName") Domain ∷ needed_row (codes "ItemName") Name ∷ []

-- the fields of GetAttributes
unfoldable pub get_rows : List Row
get_rows =
    needed_row (codes "DomainName") Domain
    ∷
    needed_row (codes "ItemName") Name
    ∷
    optional_row (codes "ConsistentRead") Flag
    ∷
    []

-- the fields of ListDomains
unfoldable pub list_rows : List Row
list_rows = optional_row (codes "MaxNumberOfDomains") (Number 1 100) ∷ optional_row (codes "NextToken") (Plain 1048576) ∷ []

-- the fields of Select
unfoldable pub select_rows : List Row
select_rows =
    needed_row (codes "SelectExpression") (Plain 1048576)
    ∷
    optional_row (codes "ConsistentRead") Flag
    ∷
    optional_row (codes "NextToken") (Plain 1048576)
    ∷
    []

-- an attribute of a put
unfoldable pub put_rows : List Row
put_rows = needed_row (codes "Name") Name ∷ needed_row (codes "Value") (Plain 1024) ∷ optional_row (codes "Replace") Flag ∷ []

-- an attribute of a deletion, which doesn't judge `Replace`
unfoldable pub drop_rows : List Row
drop_rows = needed_row (codes "Name") Name ∷ optional_row (codes "Value") (Plain 1024) ∷ []

-- a name that is asked for
unfoldable pub name_rows : List Row
name_rows = needed_row (codes "Name") Name ∷ []

-- the name of an item of a batch
unfoldable pub item_name_rows : List Row
item_name_rows = needed_row (codes "ItemName") Name ∷ []

-- an expectation, of which the name is there
unfoldable pub expect_rows : List Row
expect_rows = needed_row (codes "Name") Name ∷ optional_row (codes "Value") (Plain 1024) ∷ optional_row (codes "Exists") Flag ∷ []

-- the rows of an action's own fields
abbrev pub rows_of : Table → List Row
rows_of table.Domain = domain_rows
rows_of table.Item = item_rows
rows_of table.Get = get_rows
rows_of table.List = list_rows
rows_of table.Select = select_rows

-- and how many they are
abbrev pub count_of : Table → ℕ
count_of table.Domain = 1
count_of table.Item = 2
count_of table.Get = 3
count_of table.List = 2
count_of table.Select = 3

-- the text of a field, which `MissingParameter` answers where it is absent
abbrev pub present : Field → Result (List ℕ) Refusal
present None = Err MissingParameter
present (Some text) = Ok text

-- the field of the row at a place, counted from 0
abbrev pub field_at : List Field → ℕ → Field
field_at fields place = slice_index_or fields place None

-- its text
abbrev pub text_at : List Field → ℕ → Result (List ℕ) Refusal
text_at fields place = present (field_at fields place)

-- the flag is there, and is that word in any ASCII case
abbrev pub flag_is : List ℕ → Field → Bool
flag_is word None = false
flag_is word (Some text) = bytes_eq (map to_ascii_lowercase text) (map to_ascii_lowercase word)
