-- What a Select answers over the items of a domain, and its pages.
use Rattle.std.specs.Prelude.{◌≡◌, ℕ, ◌≤◌, Bool, true, List, [], ◌++◌, length, map, Option, Some, None, option_map, IfSome, if◌then◌else◌}
use Rattle.sdb_pairs.specs.Accounts.{ItemEntries}
use Rattle.sdb_pairs.specs.Listing.{ShownItem}
use Rattle.sdb_parse.specs.declared.expr.Expr.{Expr}
use Rattle.sdb_parse.specs.declared.select.Output.{Output}
use Rattle.sdb_parse.specs.declared.select.Output.TheVariants.{All, Names, Count, Listed}
use Rattle.sdb_parse.specs.declared.select.Select.{Select}
use Rattle.sdb_parse.specs.declared.select.Sort.{Sort}
use Rattle.sdb_parse.specs.declared.select.SortKey.{SortKey}
use Rattle.sdb_parse.specs.declared.select.SortKey.TheVariants.{Attr, ItemName}
use Rattle.sdb_parse.specs.Meaning.{Values, bound, counted, holds}
use Rattle.sdb_parse.specs.Tally.{by_attr}
use Rattle.sdb_pred.specs.Items.{values_in}
use Rattle.sdb_token.specs.declared.position.Position.{Position}
use Rattle.sdb_page.specs.Pages.{next, page}
use Rattle.sdb_page.specs.Spots.{Item, Rank, Rising, Falling, Row, Spot, answer, default_limit, falls_of, item_bytes, most_bytes, rank_of, shown_pairs, spot_cmp}

-- whether an item holds a condition, where there is one
abbrev pub passes : Option Expr → Item → Bool
passes None item = true
passes (Some cond) item = holds cond item.0 (values_in item.1)

-- the whole answer of a Select
abbrev pub answer_of : Select → ItemEntries → List Row
answer_of s items = answer (passes s.cond) s.sort items

-- ---- positions

-- a key, or where there is none the name
abbrev pub key_or : Option (List ℕ) → List ℕ → List ℕ
key_or None name = name
key_or (Some key) name = key

-- the key of a position, where items are ordered so
abbrev pub key_by : SortKey → Position → List ℕ
key_by ItemName position = position.name
key_by (Attr attribute) position = key_or position.key position.name

-- the same, where an order may be missing
abbrev pub key_in : Option Sort → Position → List ℕ
key_in None position = position.name
key_in (Some sort) position = key_by sort.by position

-- the spot of a position: by its key where the order is by an attribute, and else by its name
abbrev pub spot_at : Option Sort → Position → Spot
spot_at sort position = record { key = rank_of (falls_of sort) (key_in sort position); name = position.name }

-- the text that is ranked
abbrev pub ranked_text : Rank → List ℕ
ranked_text (Rising text) = text
ranked_text (Falling text) = text

-- the position of a spot, which has a key where the order is by an attribute
abbrev pub position_at : Option Sort → Spot → Position
position_at sort spot = record { key = if by_attr sort then Some (ranked_text spot.key) else None; name = spot.name }

-- a key of at most 1,024 bytes, where there is one, and a name of 1 to 1,024
pub record IsSmallPosition (position : Position) : Type 0 where
  pub key : IfSome position.key (λ key. length key ≤ 1024)
  pub some : 1 ≤ length position.name
  pub few : length position.name ≤ 1024

-- ---- pages

-- the bytes that an item takes on a page: none where items are counted
abbrev pub item_room : Output → Item → ℕ
item_room Count item = 0
item_room All item = item_bytes All item
item_room Names item = item_bytes Names item
item_room (Listed names) item = item_bytes (Listed names) item

-- and a row
abbrev pub room_of : Output → Row → ℕ
room_of output row = item_room output row.1

-- how many items a page has at most where the Select names no limit: `all` where they are counted
abbrev pub usual_limit : Output → (all : ℕ) → ℕ
usual_limit Count all = all
usual_limit All all = default_limit
usual_limit Names all = default_limit
usual_limit (Listed names) all = default_limit

-- how many items a page has at most
abbrev pub limit_of : Option ℕ → Output → (all : ℕ) → ℕ
limit_of None output all = usual_limit output all
limit_of (Some limit) output all = limit

-- the rows of a page after a position
abbrev pub page_of : Select → ItemEntries → Option Position → List Row
page_of s items after = page spot_cmp (room_of s.output) (limit_of s.limit s.output (length items)) most_bytes (answer_of s items) (option_map (spot_at s.sort) after)

-- the position after which the next page begins, where something is left
abbrev pub next_of : Select → ItemEntries → Option Position → Option Position
next_of s items after =
    option_map (position_at s.sort) (next spot_cmp (room_of s.output) (limit_of s.limit s.output (length items)) most_bytes (answer_of s items) (option_map (spot_at s.sort) after))

-- the pages of a Select after a position, each after the `next` of the one before, joined
pub data PagesFrom (s : Select) (items : ItemEntries) : Option Position → List Row → Type 0 where
  last_page : (after : Option Position) → next_of s items after ≡ None → PagesFrom s items after (page_of s items after)
  more_pages : (after : Option Position) (position : Position) (rest : List Row) → next_of s items after ≡ Some position
      → PagesFrom s items (Some position) rest → PagesFrom s items after (page_of s items after ++ rest)

-- an item as it is shown
abbrev pub shown_as : Output → Row → ShownItem
shown_as output row = record { name = row.1.0; pairs = shown_pairs output row.1.1 }

-- the items that a page shows: none where they are counted
abbrev pub items_on : Output → List Row → List ShownItem
items_on Count rows = []
items_on All rows = map (shown_as All) rows
items_on Names rows = map (shown_as Names) rows
items_on (Listed names) rows = map (shown_as (Listed names)) rows

-- how many items a page counts, where they are counted
abbrev pub count_on : Output → List Row → Option ℕ
count_on Count rows = Some (length rows)
count_on All rows = None
count_on Names rows = None
count_on (Listed names) rows = None

-- ---- the bound

-- items by the values of their attributes
abbrev pub valued : ItemEntries → List (List ℕ × Values)
valued items = map (λ item. (item.0, values_in item.1)) items

-- how many items a Select can look at, at most
abbrev pub bound_of : Option Expr → ItemEntries → ℕ
bound_of None items = length items
bound_of (Some cond) items = bound cond (counted (valued items))
