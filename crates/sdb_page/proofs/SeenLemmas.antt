-- Entries of the code's map, as contracts see them.
use Rattle.std.proofs.Common.{◌≡◌, List, [], ◌∷◌, map, Ordering, Less, Equal, Greater, refl, ap, ◌∙◌}
use Rattle.std.specs.BTreeMap.{insert_entry}
use Rattle.std.specs.Ordering.{match_ordering}
use Rattle.sdb_domain.specs.Rows.{seen_row}
use Rattle.sdb_page.specs.Seen.{seen_entry, seen_place}
use Rattle.sdb_page.specs.Spots.{Item, Spot, spot_cmp}
use Rattle.sdb_page.specs.declared.place.Place.{Place}
use Rattle.sdb_domain.specs.declared.row.Row.{Row}

-- an order of places that is that of their spots
pub record IsSeen (cmp : Place → Place → Ordering) : Type 0 where
  pub same : (a b : Place) → cmp a b ≡ spot_cmp (seen_place a) (seen_place b)

pub insert_entry-seen : (cmp : Place → Place → Ordering) → IsSeen cmp → (entries : List (Place × Row)) (place : Place) (row : Row)
    → map seen_entry (insert_entry cmp entries place row) ≡ insert_entry spot_cmp (map seen_entry entries) (seen_place place) (seen_row row)
insert_entry-seen cmp is [] place row = refl
insert_entry-seen cmp is (e ∷ entries) place row =
    let ih = insert_entry-seen cmp is entries place row in
    let put : Spot × Item = (seen_place place, seen_row row) in
    let seen = seen_entry e in
    let rest = map seen_entry entries in
    let later = insert_entry spot_cmp rest (seen_place place) (seen_row row) in
    (elim (cmp place e.0) as (λ r. map seen_entry (match_ordering r ((place, row) ∷ e ∷ entries) ((e.0, row) ∷ entries) (e ∷ insert_entry cmp entries place row)) ≡ match_ordering r (put ∷ seen ∷ rest) ((seen.0, put.1) ∷ rest) (seen ∷ later))
    [ Less ↦ refl | Equal ↦ refl | Greater ↦ ap (λ l. seen ∷ l) ih ])
    ∙ ap (λ r. match_ordering r (put ∷ seen ∷ rest) ((seen.0, put.1) ∷ rest) (seen ∷ later)) (is.same place e.0)
