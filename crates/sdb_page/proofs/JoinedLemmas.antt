-- The pages of a Select by their positions join to its answer.
use Rattle.std.proofs.Common.{◌≡◌, ℕ, ◌<◌, ◌≤◌, Bool, true, false, List, [], ◌∷◌, ◌++◌, length, filter, Option, Some, None, option_map, IfSome, refl, sym, ap, ◌∙◌, subst, arith}
use Rattle.std.specs.List.{AllByRecursion}
use Rattle.sdb_pairs.specs.Accounts.{ItemEntries}
use Rattle.sdb_pairs.specs.Lawful.{AreLawfulItems}
use Rattle.sdb_pairs.specs.Pairs.{part_named}
use Rattle.sdb_parse.specs.declared.select.Output.{Output}
use Rattle.sdb_parse.specs.declared.select.Output.TheVariants as output
use Rattle.sdb_parse.specs.declared.select.Select.{Select}
use Rattle.sdb_parse.specs.declared.select.Sort.{Sort}
use Rattle.sdb_parse.specs.declared.select.SortKey.{SortKey}
use Rattle.sdb_parse.specs.declared.select.SortKey.TheVariants as key
use Rattle.sdb_token.specs.declared.position.Position.{Position}
use Rattle.sdb_base.specs.Entries.{IsRising}
use Rattle.sdb_page.specs.Pages.{Joins, only, more, next, page}
use Rattle.sdb_page.specs.Selects.{PagesFrom, last_page, more_pages, answer_of, limit_of, passes, position_at, room_of, spot_at}
use Rattle.sdb_page.specs.Spots.{Item, Row, Spot, answer, key_of, most_bytes, rank_of, row_bytes, spot_cmp, spot_of, value_key}
use Rattle.sdb_page.proofs.FitLemmas.{answer-fits}
use Rattle.sdb_page.proofs.PageLemmas.{pages-are, pages-join}
use Rattle.sdb_page.proofs.PositionLemmas.{each_row, next_has}
use Rattle.sdb_page.proofs.SpotLemmas.{answer-rises, spot_total}

-- ---- a spot of an item is that of its position

Back : Option Sort → Spot → Type 0
Back sort spot = spot_at sort (position_at sort spot) ≡ spot

-- the spot of an item under this key
abbrev spot_under : Bool → List ℕ → List ℕ → Spot
spot_under falls name text = record { key = rank_of falls text; name = name }

abbrev sorted_by : SortKey → Bool → Option Sort
sorted_by by falls = Some (record { by = by; down = falls })

back_attr : (attribute : List ℕ) (falls : Bool) (name text : List ℕ) → Back (sorted_by (key.Attr attribute) falls) (spot_under falls name text)
unfolding Back
back_attr attribute true name text = refl
back_attr attribute false name text = refl

back_attrs : (attribute : List ℕ) (falls : Bool) (name : List ℕ) (text : Option (List ℕ)) → IfSome (option_map (spot_under falls name) text) (Back (sorted_by (key.Attr attribute) falls))
back_attrs attribute falls name None = tt
back_attrs attribute falls name (Some text) = back_attr attribute falls name text

back_name : (falls : Bool) (name : List ℕ) → Back (sorted_by key.ItemName falls) (spot_under falls name name)
unfolding Back
back_name true name = refl
back_name false name = refl

back_unsorted : (name : List ℕ) → Back None (spot_under false name name)
unfolding Back
back_unsorted name = refl

back_sorted : (by : SortKey) (falls : Bool) (item : Item) → IfSome (option_map (spot_under falls item.0) (key_of by falls item)) (Back (sorted_by by falls))
back_sorted key.ItemName falls item = back_name falls item.0
back_sorted (key.Attr attribute) falls item = back_attrs attribute falls item.0 (value_key falls (part_named attribute item.1))

back_item : (sort : Option Sort) (item : Item) → IfSome (spot_of sort item) (Back sort)
back_item None item = back_unsorted item.0
back_item (Some sort) item = back_sorted sort.by sort.down item

each_back : (sort : Option Sort) (items : ItemEntries) → AllByRecursion (λ item. IfSome (spot_of sort item) (Back sort)) items
each_back sort [] = tt
each_back sort (item ∷ items) = (back_item sort item, each_back sort items)

answer_back : (test : Item → Bool) (sort : Option Sort) (items : ItemEntries) → AllByRecursion (λ (row : Row). Back sort row.0) (answer test sort items)
unfolding answer
answer_back test sort items = each_row (Back sort) sort (filter test items) [] (each_back sort (filter test items)) tt

-- ---- pages by positions are pages by spots

module _ (s : Select) (items : ItemEntries) where
  abbrev limit : ℕ
  limit = limit_of s.limit s.output (length items)

  abbrev next_spot : Option Spot → Option Spot
  next_spot start = next spot_cmp (room_of s.output) limit most_bytes (answer_of s items) start

  abbrev start_of : Option Position → Option Spot
  start_of position = option_map (spot_at s.sort) position

  next_back : (start : Option Spot) → IfSome (next_spot start) (Back s.sort)
  next_back start = next_has (Back s.sort) (room_of s.output) limit most_bytes (answer_of s items) start (answer_back (passes s.cond) s.sort items)

  none_next : (spot : Option Spot) → option_map (position_at s.sort) spot ≡ None → spot ≡ None
  none_next None is = refl
  none_next (Some spot) is = absurd cc

  some_next : (spot : Option Spot) (position : Position) → IfSome spot (Back s.sort) → option_map (position_at s.sort) spot ≡ Some position → spot ≡ Some (spot_at s.sort position)
  unfolding Back
  some_next None position back is = absurd cc
  some_next (Some spot) position back is =
      let same : position_at s.sort spot ≡ position = cc in
      ap (λ (x : Spot). Some x) (sym back ∙ ap (spot_at s.sort) same)

  AsJoins : Option Position → List Row → Type 0
  AsJoins position all = Joins spot_cmp (room_of s.output) limit most_bytes (answer_of s items) (start_of position) all

  as_joins : (position : Option Position) (all : List Row) → PagesFrom s items position all → AsJoins position all
  unfolding AsJoins
  as_joins position all (last_page p none) = only (start_of p) (none_next (next_spot (start_of p)) none)
  as_joins position all (more_pages p following rest is further) =
      more (start_of p) (spot_at s.sort following) rest (some_next (next_spot (start_of p)) following (next_back (start_of p)) is) (as_joins (Some following) rest further)

  back_of : (spot : Option Spot) (following : Spot) → IfSome spot (Back s.sort) → spot ≡ Some following → spot_at s.sort (position_at s.sort following) ≡ following
  unfolding Back
  back_of None following back is = absurd cc
  back_of (Some spot) following back is = let same : spot ≡ following = cc in subst (λ (x : Spot). spot_at s.sort (position_at s.sort x) ≡ x) same back

  from_joins : (start : Option Spot) (all : List Row) → Joins spot_cmp (room_of s.output) limit most_bytes (answer_of s items) start all → (position : Option Position) → start_of position ≡ start → PagesFrom s items position all
  from_joins start all (only p none) position is =
      subst (λ x. PagesFrom s items position (page spot_cmp (room_of s.output) limit most_bytes (answer_of s items) x)) is
      (last_page position (ap (option_map (position_at s.sort)) (ap next_spot is ∙ none)))
  from_joins start all (more p following rest next_is further) position is =
      let behind = position_at s.sort following in
      let again : start_of (Some behind) ≡ Some following = ap (λ (x : Spot). Some x) (back_of (next_spot p) following (next_back p) next_is) in
      subst (λ x. PagesFrom s items position (page spot_cmp (room_of s.output) limit most_bytes (answer_of s items) x ++ rest)) is
      (more_pages position behind rest (ap (option_map (position_at s.sort)) (ap next_spot is ∙ next_is)) (from_joins (Some following) rest further (Some behind) again))

  room_one : (shown : Output) (row : Row) → row_bytes shown row ≤ most_bytes → room_of shown row ≤ most_bytes
  room_one output.Count row fits = omega arith
  room_one output.All row fits = fits
  room_one output.Names row fits = fits
  room_one (output.Listed names) row fits = fits

  room_each : (shown : Output) (rows : List Row) → AllByRecursion (λ row. row_bytes shown row ≤ most_bytes) rows → AllByRecursion (λ row. room_of shown row ≤ most_bytes) rows
  room_each shown [] each = tt
  room_each shown (row ∷ rows) each = (room_one shown row each.0, room_each shown rows each.1)

  module _ (lawful : AreLawfulItems items) (some : 0 < limit) where
    rises : IsRising spot_cmp (answer_of s items)
    rises = answer-rises (passes s.cond) s.sort items

    fits : AllByRecursion (λ row. room_of s.output row ≤ most_bytes) (answer_of s items)
    fits = room_each s.output (answer_of s items) (answer-fits s.output (passes s.cond) s.sort items lawful)

    pub select-pages-join : (all : List Row) → PagesFrom s items None all → all ≡ answer_of s items
    unfolding AsJoins
    select-pages-join all pages = pages-join spot_total (room_of s.output) limit most_bytes (answer_of s items) rises some fits all (as_joins None all pages)

    pub select-pages-are : (all : List Row) × PagesFrom s items None all
    select-pages-are =
        let joins = pages-are spot_total (room_of s.output) limit most_bytes (answer_of s items) rises some fits in
        (joins.0, from_joins None joins.0 joins.1 None refl)
