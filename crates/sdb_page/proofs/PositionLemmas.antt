-- Positions of lawful items are small.
use Rattle.std.proofs.Common.{ℕ, zero, suc, ◌-◌, ◌≤◌, Bool, true, false, cond, nat_lt, nat_le, List, [], ◌∷◌, length, filter, fold, Option, Some, None, option_map, IfSome, Less, Equal, Greater, All, ◌&&◌, if◌then◌else◌, is_lt}
use Rattle.std.specs.Prelude.{slice_get}
use Rattle.std.specs.BTreeMap.{insert_entry}
use Rattle.std.specs.List.{AllByRecursion}
use Rattle.std.specs.Map.{keys_of, values_of}
use Rattle.std.specs.Ordering.{match_ordering}
use Rattle.std.proofs.lemmas.Bool.{and_parts, leb-true}
use Rattle.std.proofs.lemmas.List.Elements.{All-head, All-tail, All-filter}
use Rattle.sdb_base.specs.Names.{IsName}
use Rattle.sdb_pairs.specs.Accounts.{ItemEntries}
use Rattle.sdb_pairs.specs.Lawful.{IsLawfulPair, IsLawfulItem, AreLawfulItems}
use Rattle.sdb_pairs.specs.Pairs.{is_named, part_named}
use Rattle.sdb_pairs.specs.declared.pair.Pair.{Pair}
use Rattle.sdb_parse.specs.declared.select.Select.{Select}
use Rattle.sdb_parse.specs.declared.select.Sort.{Sort}
use Rattle.sdb_parse.specs.declared.select.SortKey.{SortKey}
use Rattle.sdb_parse.specs.declared.select.SortKey.TheVariants as key
use Rattle.sdb_parse.specs.Tally.{by_attr}
use Rattle.sdb_token.specs.declared.position.Position.{Position}
use Rattle.sdb_page.specs.Pages.{after, fitting, last_place, next, page}
use Rattle.sdb_page.specs.Selects.{IsSmallPosition, answer_of, limit_of, next_of, passes, position_at, ranked_text, room_of, spot_at}
use Rattle.sdb_page.specs.Spots.{Item, Row, Spot, answer, falls_of, key_of, most_bytes, rank_of, sort_key, spot_cmp, spot_of, value_key, with_row}

-- a name of 1 to 1,024 bytes, and a key of at most 1,024
record IsSmall (spot : Spot) : Type 0 where
  pub some : 1 ≤ length spot.name
  pub few : length spot.name ≤ 1024
  pub key : length (ranked_text spot.key) ≤ 1024

-- ---- what holds of the spots of all rows

module _ (Q : Spot → Type 0) where
  abbrev RowHas : Row → Type 0
  RowHas row = Q row.0

  each_inserted : (rows : List Row) (spot : Spot) (item : Item) → Q spot → AllByRecursion RowHas rows → AllByRecursion RowHas (insert_entry spot_cmp rows spot item)
  each_inserted [] spot item has each = (has, tt)
  each_inserted (row ∷ rows) spot item has each =
      let later = each_inserted rows spot item has each.1 in
      elim (spot_cmp spot row.0) as (λ r. AllByRecursion RowHas (match_ordering r ((spot, item) ∷ row ∷ rows) ((row.0, item) ∷ rows) (row ∷ insert_entry spot_cmp rows spot item))) [
        | Less ↦ (has, each)
        | Equal ↦ (each.0, each.1)
        | Greater ↦ (each.0, later)
      ]

  each_with : (rows : List Row) (spot : Option Spot) (item : Item) → IfSome spot Q → AllByRecursion RowHas rows → AllByRecursion RowHas (with_row rows spot item)
  each_with rows None item has each = each
  each_with rows (Some spot) item has each = each_inserted rows spot item has each

  pub each_row : (sort : Option Sort) (items : ItemEntries) (rows : List Row) → AllByRecursion (λ item. IfSome (spot_of sort item) Q) items → AllByRecursion RowHas rows
      → AllByRecursion RowHas (fold (λ rows item. with_row rows (spot_of sort item) item) rows items)
  each_row sort [] rows has each = each
  each_row sort (item ∷ items) rows has each = each_row sort items (with_row rows (spot_of sort item) item) has.1 (each_with rows (spot_of sort item) item has.0 each)

  some_of : (test : Row → Bool) (rows : List Row) → AllByRecursion RowHas rows → AllByRecursion RowHas (filter test rows)
  some_of test [] each = tt
  some_of test (row ∷ rows) each =
      let later = some_of test rows each.1 in
      elim (test row) as (λ b. AllByRecursion RowHas (cond b (row ∷ filter test rows) (filter test rows))) [ true ↦ (each.0, later) | false ↦ later ]

  after_has : (rows : List Row) (start : Option Spot) → AllByRecursion RowHas rows → AllByRecursion RowHas (after spot_cmp rows start)
  after_has rows None each = each
  after_has rows (Some start) each = some_of (λ row. is_lt (spot_cmp start row.0)) rows each

  front_has : (size : Row → ℕ) (limit bytes : ℕ) (rows : List Row) → AllByRecursion RowHas rows → AllByRecursion RowHas (fitting size limit bytes rows)
  front_has size limit bytes [] each = tt
  front_has size limit bytes (row ∷ rows) each =
      let later = front_has size (limit - 1) (bytes - size row) rows each.1 in
      elim (nat_lt 0 limit && nat_le (size row) bytes) as (λ b. AllByRecursion RowHas (cond b (row ∷ fitting size (limit - 1) (bytes - size row) rows) [])) [ true ↦ (each.0, later) | false ↦ tt ]

  last_has : (rows : List Row) → AllByRecursion RowHas rows → IfSome (last_place rows) Q
  last_has [] each = tt
  last_has (row ∷ []) each = each.0
  last_has (row ∷ second ∷ rows) each = last_has (second ∷ rows) each.1

  where_more : (more : Bool) (last : Option Spot) → IfSome last Q → IfSome (cond more last None) Q
  where_more true last has = has
  where_more false last has = tt

  -- what holds of all rows holds of the spot behind a page
  pub next_has : (size : Row → ℕ) (limit bytes : ℕ) (rows : List Row) (start : Option Spot) → AllByRecursion RowHas rows → IfSome (next spot_cmp size limit bytes rows start) Q
  next_has size limit bytes rows start each =
      let left = after spot_cmp rows start in
      let here = page spot_cmp size limit bytes rows start in
      where_more (nat_lt (length here) (length left)) (last_place here) (last_has here (front_has size limit bytes left (after_has rows start each)))

-- ---- the spot of a lawful item

abbrev TextSmall : List ℕ → Type 0
TextSmall text = length text ≤ 1024

name_some : (name : List ℕ) → IsName name → 1 ≤ length name
name_some name lawful = leb-true _ _ (and_parts _ _ (and_parts _ _ lawful).0).0

name_few : (name : List ℕ) → IsName name → length name ≤ 1024
name_few name lawful = leb-true _ _ (and_parts _ _ (and_parts _ _ lawful).0).1

pair_few : (pair : Pair) → IsLawfulPair pair → length pair.value ≤ 1024
pair_few pair lawful = leb-true _ _ (and_parts _ _ lawful.value_lawful).0

value_at : (named : List Pair) (n : ℕ) → All IsLawfulPair named → IfSome (option_map (λ (pair : Pair). pair.value) (slice_get named n)) TextSmall
value_at [] n lawful = tt
value_at (pair ∷ named) zero lawful = pair_few pair (All-head IsLawfulPair pair named lawful)
value_at (pair ∷ named) (suc n) lawful = value_at named n (All-tail IsLawfulPair pair named lawful)

value_small : (falls : Bool) (named : List Pair) → All IsLawfulPair named → IfSome (value_key falls named) TextSmall
value_small false named lawful = value_at named 0 lawful
value_small true named lawful = value_at named (length named - 1) lawful

key_small : (by : SortKey) (falls : Bool) (item : Item) → IsName item.0 → IsLawfulItem item.1 → IfSome (key_of by falls item) TextSmall
key_small key.ItemName falls item name lawful = name_few item.0 name
key_small (key.Attr attribute) falls item name lawful = value_small falls (part_named attribute item.1) (All-filter (is_named attribute) IsLawfulPair item.1 lawful.each)

sort_small : (sort : Option Sort) (item : Item) → IsName item.0 → IsLawfulItem item.1 → IfSome (sort_key sort item) TextSmall
sort_small None item name lawful = name_few item.0 name
sort_small (Some sort) item name lawful = key_small sort.by sort.down item name lawful

ranked : (falls : Bool) (text : List ℕ) → TextSmall text → length (ranked_text (rank_of falls text)) ≤ 1024
ranked false text small = small
ranked true text small = small

with_key : (falls : Bool) (text : Option (List ℕ)) (name : List ℕ) → IsName name → IfSome text TextSmall
    → IfSome (option_map (λ key. (let spot : Spot = record { key = rank_of falls key; name = name } in spot)) text) IsSmall
with_key falls None name lawful small = tt
with_key falls (Some text) name lawful small = record { some = name_some name lawful; few = name_few name lawful; key = ranked falls text small }

spot_small : (sort : Option Sort) (item : Item) → IsName item.0 → IsLawfulItem item.1 → IfSome (spot_of sort item) IsSmall
spot_small sort item name lawful = with_key (falls_of sort) (sort_key sort item) item.0 name (sort_small sort item name lawful)

each_passing : (sort : Option Sort) (test : Item → Bool) (items : ItemEntries) → All IsName (keys_of items) → All IsLawfulItem (values_of items) → AllByRecursion (λ item. IfSome (spot_of sort item) IsSmall) (filter test items)
each_passing sort test [] names lawful = tt
each_passing sort test (item ∷ items) names lawful =
    let later = each_passing sort test items (All-tail IsName item.0 (keys_of items) names) (All-tail IsLawfulItem item.1 (values_of items) lawful) in
    let small = spot_small sort item (All-head IsName item.0 (keys_of items) names) (All-head IsLawfulItem item.1 (values_of items) lawful) in
    elim (test item) as (λ b. AllByRecursion (λ item. IfSome (spot_of sort item) IsSmall) (cond b (item ∷ filter test items) (filter test items))) [ true ↦ (small, later) | false ↦ later ]

answer_small : (test : Item → Bool) (sort : Option Sort) (items : ItemEntries) → AreLawfulItems items → AllByRecursion (λ (row : Row). IsSmall row.0) (answer test sort items)
unfolding answer
answer_small test sort items lawful = each_row IsSmall sort (filter test items) [] (each_passing sort test items lawful.names_lawful lawful.each) tt

-- ---- positions

keyed_small : (keyed : Bool) (text : List ℕ) → TextSmall text → IfSome (if keyed then Some text else None) TextSmall
keyed_small true text small = small
keyed_small false text small = tt

as_position : (sort : Option Sort) (spot : Option Spot) → IfSome spot IsSmall → IfSome (option_map (position_at sort) spot) IsSmallPosition
as_position sort None small = tt
as_position sort (Some spot) small = record { key = keyed_small (by_attr sort) (ranked_text spot.key) small.key; some = small.some; few = small.few }

pub next-small : (s : Select) (items : ItemEntries) (position : Option Position) → AreLawfulItems items → IfSome (next_of s items position) IsSmallPosition
next-small s items position lawful =
    let start = option_map (spot_at s.sort) position in
    let limit = limit_of s.limit s.output (length items) in
    as_position s.sort (next spot_cmp (room_of s.output) limit most_bytes (answer_of s items) start)
    (next_has IsSmall (room_of s.output) limit most_bytes (answer_of s items) start (answer_small (passes s.cond) s.sort items lawful))
