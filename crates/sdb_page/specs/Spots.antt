-- Where the items of a domain stand in the order of a Select.
use Rattle.std.specs.Prelude.{ℕ, ◌+◌, ◌-◌, Bool, true, false, List, [], length, filter, fold, slice_get, sum_by, Option, Some, None, option_map, bytes_eq, if◌then◌else◌}
use Rattle.std.specs.declared.cmp.Ordering.{Ordering}
use Rattle.std.specs.declared.cmp.Ordering.TheVariants.{Less, Greater}
use Rattle.std.specs.List.{list_any}
use Rattle.std.specs.Ordering.{ordering_then}
use Rattle.std.specs.BTreeMap.{insert_entry}
use Rattle.sdb_base.specs.Texts.{text_cmp}
use Rattle.sdb_pairs.specs.Accounts.{ItemEntries}
use Rattle.sdb_pairs.specs.Pairs.{part_named}
use Rattle.sdb_pairs.specs.declared.pair.Pair.{Pair}
use Rattle.sdb_parse.specs.declared.select.Output.{Output}
use Rattle.sdb_parse.specs.declared.select.Output.TheVariants.{All, Names, Count, Listed}
use Rattle.sdb_parse.specs.declared.select.Sort.{Sort}
use Rattle.sdb_parse.specs.declared.select.SortKey.{SortKey}
use Rattle.sdb_parse.specs.declared.select.SortKey.TheVariants.{Attr, ItemName}

-- an item: its name and its pairs
abbrev pub Item : Type 0
Item = List ℕ × List Pair

-- a text that is compared in rising or in falling order
pub data Rank : Type 0 where
  Rising : List ℕ → Rank
  Falling : List ℕ → Rank

-- ranks in order; those of one Select are all of one kind
abbrev pub rank_cmp : Rank → Rank → Ordering
rank_cmp (Rising a) (Rising b) = text_cmp a b
rank_cmp (Rising a) (Falling b) = Less
rank_cmp (Falling a) (Rising b) = Greater
rank_cmp (Falling a) (Falling b) = text_cmp b a

-- where an item stands: by a key, and where keys tie by its name
pub record Spot : Type 0 where
  pub key : Rank
  pub name : List ℕ

-- spots in order: by their keys, and ties by rising name
abbrev pub spot_cmp : Spot → Spot → Ordering
spot_cmp a b = ordering_then (rank_cmp a.key b.key) (text_cmp a.name b.name)

-- the rank of a key in an order that rises or falls
abbrev pub rank_of : (falls : Bool) → List ℕ → Rank
rank_of false key = Rising key
rank_of true key = Falling key

-- ---- the spot of an item

-- the least of values that rise
abbrev pub least_value : List Pair → Option (List ℕ)
least_value named = option_map (λ (pair : Pair). pair.value) (slice_get named 0)

-- the greatest of them
abbrev pub greatest_value : List Pair → Option (List ℕ)
greatest_value named = option_map (λ (pair : Pair). pair.value) (slice_get named (length named - 1))

-- the key of an item whose pairs of the sort attribute are these: the least value rising, the greatest falling
abbrev pub value_key : (falls : Bool) → List Pair → Option (List ℕ)
value_key false named = least_value named
value_key true named = greatest_value named

-- the key of an item: its name, or a value of the sort attribute where it has one
abbrev pub key_of : SortKey → (falls : Bool) → Item → Option (List ℕ)
key_of ItemName falls item = Some item.0
key_of (Attr attribute) falls item = value_key falls (part_named attribute item.1)

-- the same, where an order may be missing: then items stand by rising name
abbrev pub sort_key : Option Sort → Item → Option (List ℕ)
sort_key None item = Some item.0
sort_key (Some sort) item = key_of sort.by sort.down item

-- whether the order falls
abbrev pub falls_of : Option Sort → Bool
falls_of None = false
falls_of (Some sort) = sort.down

-- where an item stands; one without the sort attribute stands nowhere
abbrev pub spot_of : Option Sort → Item → Option Spot
spot_of sort item = option_map (λ key. record { key = rank_of (falls_of sort) key; name = item.0 }) (sort_key sort item)

-- ---- the answer

-- an item under its spot
abbrev pub Row : Type 0
Row = Spot × Item

-- rows with one more at its spot
abbrev pub with_row : List Row → Option Spot → Item → List Row
with_row rows None item = rows
with_row rows (Some spot) item = insert_entry spot_cmp rows spot item

-- the same, where the item passes
abbrev pub with_item : (Item → Bool) → Option Sort → List Row → Item → List Row
with_item passes sort rows item = if passes item then with_row rows (spot_of sort item) item else rows

-- items under their spots, in order
abbrev pub rows_of : Option Sort → ItemEntries → List Row
rows_of sort items = fold (λ rows item. with_row rows (spot_of sort item) item) [] items

-- the items that pass and stand somewhere, in order, each under its spot
unfoldable pub answer : (Item → Bool) → Option Sort → ItemEntries → List Row
answer passes sort items = rows_of sort (filter passes items)

-- ---- what is shown of an item

-- the pairs that are shown, in their order
abbrev pub shown_pairs : Output → List Pair → List Pair
shown_pairs All pairs = pairs
shown_pairs Names pairs = []
shown_pairs Count pairs = []
shown_pairs (Listed names) pairs = filter (λ pair. list_any (bytes_eq pair.name) names) pairs

-- the bytes of a pair
abbrev pub pair_bytes : Pair → ℕ
pair_bytes pair = length pair.name + length pair.value

-- the bytes of an item on a page: those of its name, and of the names and values that are shown
abbrev pub item_bytes : Output → Item → ℕ
item_bytes output item = length item.0 + sum_by pair_bytes (shown_pairs output item.1)

-- and those of a row
abbrev pub row_bytes : Output → Row → ℕ
row_bytes output row = item_bytes output row.1

-- a page has at most so many bytes
abbrev pub most_bytes : ℕ
most_bytes = 1048576

-- and so many items, where the Select names no limit
abbrev pub default_limit : ℕ
default_limit = 100
