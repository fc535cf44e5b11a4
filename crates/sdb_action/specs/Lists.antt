-- What the numbered lists of a request give: attributes, names, items, the expectation.
use Rattle.std.specs.Prelude.{ℕ, List, [], ◌∷◌, length, Bool, false, ◌||◌, nat_lt, Option, Some, None, is_none, Result, Ok, Err, if◌then◌else◌, codes}
use Rattle.std.specs.List.{list_any}
use Rattle.std.specs.Str.{bytes_eq}
use Rattle.sdb_base.specs.Pairs.{NamedValues, value_of}
use Rattle.sdb_tables.specs.Rules.{Field, fields_by}
use Rattle.sdb_tables.specs.declared.refusal.Refusal.{Refusal}
use Rattle.sdb_tables.specs.declared.refusal.Refusal.TheVariants.{MissingParameter, NumberSubmittedAttributesExceeded, NumberSubmittedItemsExceeded, DuplicateItemName, IncompleteExpectedExpression, ExistsAndExpectedValue, MultipleExpectedNames}
use Rattle.sdb_action.specs.declared.numbers.EntryKind.TheVariants.{Attribute, AttributeName, Expected, Item}
use Rattle.sdb_action.specs.declared.request.PutPair.{PutPair}
use Rattle.sdb_action.specs.declared.request.DropPart.{DropPart}
use Rattle.sdb_action.specs.declared.request.Expect.{Expect}
use Rattle.sdb_action.specs.declared.request.PutItem.{PutItem}
use Rattle.sdb_action.specs.declared.request.DropItem.{DropItem}
use Rattle.sdb_action.specs.Entries.{entries}
use Rattle.sdb_base.specs.Results.{and_then, each}
use Rattle.sdb_action.specs.Tables.{field_at, text_at, flag_is, put_rows, drop_rows, name_rows, item_name_rows, expect_rows}

-- ---- numbers of entries

-- at most 256 attributes or attribute names
abbrev pub at_most_256 : List NamedValues → Result (List NamedValues) Refusal
at_most_256 list = if nat_lt 256 (length list) then Err (NumberSubmittedAttributesExceeded (length list)) else Ok list

-- at most 25 items
abbrev pub at_most_25 : List NamedValues → Result (List NamedValues) Refusal
at_most_25 list = if nat_lt 25 (length list) then Err (NumberSubmittedItemsExceeded (length list)) else Ok list

-- at least one entry
abbrev pub some_entry : List NamedValues → Result (List NamedValues) Refusal
some_entry [] = Err MissingParameter
some_entry (parts ∷ list) = Ok (parts ∷ list)

-- ---- attributes

-- an attribute of a put
abbrev pub put_pair : NamedValues → Result PutPair Refusal
put_pair parts =
    and_then (fields_by parts put_rows) (λ fields.
    and_then (text_at fields 0) (λ name.
    and_then (text_at fields 1) (λ value.
    Ok (record { name = name; value = value; replace = flag_is (codes "true") (field_at fields 2) }))))

-- an attribute of a deletion
abbrev pub drop_part : NamedValues → Result DropPart Refusal
drop_part parts =
    and_then (fields_by parts drop_rows) (λ fields.
    and_then (text_at fields 0) (λ name. Ok (record { name = name; value = field_at fields 1 })))

-- an attribute name of a get
abbrev pub asked_name : NamedValues → Result (List ℕ) Refusal
asked_name parts = and_then (fields_by parts name_rows) (λ fields. text_at fields 0)

-- the pairs of a put, of which there is at least one
abbrev pub pairs_of : List NamedValues → Result (List PutPair) Refusal
pairs_of list = and_then (at_most_256 list) (λ list. and_then (some_entry list) (λ some. each put_pair some))

-- the attributes of a put
abbrev pub put_pairs : NamedValues → Result (List PutPair) Refusal
put_pairs params = pairs_of (entries Attribute params)

-- the parts of a deletion
abbrev pub parts_of : List NamedValues → Result (List DropPart) Refusal
parts_of list = and_then (at_most_256 list) (λ list. each drop_part list)

-- the attributes of a deletion
abbrev pub drop_parts : NamedValues → Result (List DropPart) Refusal
drop_parts params = parts_of (entries Attribute params)

-- the attribute names that are asked for
abbrev pub asked_names : NamedValues → Result (List (List ℕ)) Refusal
asked_names params = and_then (at_most_256 (entries AttributeName params)) (λ list. each asked_name list)

-- ---- items of a batch

-- the item that the fields of an entry name
abbrev pub item_name : NamedValues → Result (List ℕ) Refusal
item_name parts = and_then (fields_by parts item_name_rows) (λ fields. text_at fields 0)

-- an item of a batch of puts
abbrev pub put_item : NamedValues → Result PutItem Refusal
put_item parts = and_then (item_name parts) (λ name. and_then (put_pairs parts) (λ pairs. Ok (record { name = name; pairs = pairs })))

-- an item of a batch of deletions
abbrev pub drop_item : NamedValues → Result DropItem Refusal
drop_item parts = and_then (item_name parts) (λ name. and_then (drop_parts parts) (λ dropped. Ok (record { name = name; parts = dropped })))

-- the entries of a batch, at least 1 and at most 25
abbrev pub batch : NamedValues → Result (List NamedValues) Refusal
batch params = and_then (at_most_25 (entries Item params)) (λ list. some_entry list)

-- whether a name stands twice
unfoldable pub names_twice : {A : Type 0} → (A → List ℕ) → List A → Bool
names_twice name [] = false
names_twice name (item ∷ items) = list_any (λ other. bytes_eq (name item) (name other)) items || names_twice name items

-- items that were read, where no name stands twice
abbrev pub each_once : {A : Type 0} → (A → List ℕ) → List A → Result (List A) Refusal
each_once name items = if names_twice name items then Err DuplicateItemName else Ok items

-- the items of a batch: their number, each of them, and then their names
abbrev pub items_of : {A : Type 0} → (NamedValues → Result A Refusal) → (A → List ℕ) → NamedValues → Result (List A) Refusal
items_of read name params = and_then (batch params) (λ list. and_then (each read list) (each_once name))

-- the items of a batch of puts
abbrev pub put_items : NamedValues → Result (List PutItem) Refusal
put_items params = items_of put_item (λ item. item.name) params

-- the items of a batch of deletions
abbrev pub drop_items : NamedValues → Result (List DropItem) Refusal
drop_items params = items_of drop_item (λ item. item.name) params

-- ---- the expectation

-- a value, or `Exists=false` without one
abbrev pub expected_value : List ℕ → Field → Bool → Result Expect Refusal
expected_value name (Some value) absent = if absent then Err ExistsAndExpectedValue else Ok (record { name = name; value = Some value })
expected_value name None absent = if absent then Ok (record { name = name; value = None }) else Err IncompleteExpectedExpression

-- an expectation whose name is there
abbrev pub expect_by_fields : NamedValues → Result Expect Refusal
expect_by_fields parts =
    and_then (fields_by parts expect_rows) (λ fields.
    and_then (text_at fields 0) (λ name.
    expected_value name (field_at fields 1) (flag_is (codes "false") (field_at fields 2))))

-- its name has to be there before anything is judged
abbrev pub expect : NamedValues → Result Expect Refusal
expect parts = if is_none (value_of parts (codes "Name")) then Err IncompleteExpectedExpression else expect_by_fields parts

-- at most one expectation
abbrev pub one_expectation : List NamedValues → Result (Option Expect) Refusal
one_expectation [] = Ok None
one_expectation (parts ∷ []) = and_then (expect parts) (λ expected. Ok (Some expected))
one_expectation (parts ∷ more ∷ list) = Err MultipleExpectedNames

-- the expectation of a write, where it has one
abbrev pub expectation : NamedValues → Result (Option Expect) Refusal
expectation params = one_expectation (entries Expected params)
