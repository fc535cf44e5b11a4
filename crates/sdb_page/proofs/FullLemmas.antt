-- Where so many rows are kept that one behind them all isn't.
use Rattle.std.proofs.Common.{◌≡◌, ℕ, ◌≤◌, true, false, List, [], ◌∷◌, length, map, take, Less, Greater, is_lt, sym, ap, ◌∙◌, All, true≢false}
use Rattle.std.specs.BTreeMap.{insert_entry}
use Rattle.std.specs.List.{AllByRecursion}
use Rattle.std.specs.Map.{keys_of}
use Rattle.std.proofs.lemmas.List.{take-append-le}
use Rattle.std.proofs.lemmas.List.Elements.{All-head, All-tail}
use Rattle.sdb_base.proofs.Cases.{by_ordering}
use Rattle.sdb_base.proofs.EntryLemmas.{insert_entry-last}
use Rattle.sdb_base.proofs.KeyLemmas.{turn}
use Rattle.sdb_domain.specs.declared.row.Row.{Row as Lent}
use Rattle.sdb_page.specs.Seen.{seen_entry, seen_place}
use Rattle.sdb_page.specs.Spots.{Item, Row, Spot, spot_cmp}
use Rattle.sdb_page.specs.declared.place.Place.{Place}
use Rattle.std.specs.declared.cmp.Ordering.{Ordering}
use Rattle.sdb_page.proofs.SeenLemmas.{IsSeen}
use Rattle.sdb_page.proofs.SpotLemmas.{spot_total}

-- a spot up to the last one is below what that is below
up_to_last : (one last spot : Spot) → is_lt (spot_cmp last one) ≡ false → is_lt (spot_cmp last spot) ≡ true → spot_cmp one spot ≡ Less
up_to_last one last spot up behind =
    let low : spot_cmp last spot ≡ Less = by_ordering (spot_cmp last spot) (λ less. less) (λ equal. absurd (true≢false (sym behind ∙ ap is_lt equal))) (λ greater. absurd (true≢false (sym behind ∙ ap is_lt greater))) in
    by_ordering (spot_cmp last one)
    (λ less. absurd (true≢false (sym (ap is_lt less) ∙ up)))
    (λ equal. sym (spot_total.congr last one spot equal) ∙ low)
    (λ greater. spot_total.trans one last spot (turn spot_total last one Greater greater) low)

module _ (cmp : Place → Place → Ordering) (is : IsSeen cmp) (last place : Place) (behind : is_lt (cmp last place) ≡ true) where
  all_below : (entries : List (Place × Lent)) → All (λ q. is_lt (cmp last q) ≡ false) (keys_of entries) → AllByRecursion (λ spot. spot_cmp spot (seen_place place) ≡ Less) (keys_of (map seen_entry entries))
  all_below [] h = tt
  all_below (e ∷ entries) h =
      let up : is_lt (cmp last e.0) ≡ false = All-head (λ q. is_lt (cmp last q) ≡ false) e.0 (keys_of entries) h in (
        up_to_last (seen_place e.0) (seen_place last) (seen_place place) (sym (ap is_lt (is.same last e.0)) ∙ up) (sym (ap is_lt (is.same last place)) ∙ behind),
        all_below entries (All-tail (λ q. is_lt (cmp last q) ≡ false) e.0 (keys_of entries) h),
      )

  -- one more behind all doesn't change the first rows
  pub full_before : (entries : List (Place × Lent)) (most : ℕ) (item : Item) → All (λ q. is_lt (cmp last q) ≡ false) (keys_of entries) → most ≤ length (map seen_entry entries)
      → take most (insert_entry spot_cmp (map seen_entry entries) (seen_place place) item) ≡ take most (map seen_entry entries)
  full_before entries most item h full =
      let rows : List Row = map seen_entry entries in
      ap (take most) (insert_entry-last spot_total rows (seen_place place) item (all_below entries h)) ∙ take-append-le most rows ((seen_place place, item) ∷ []) full
