use Rattle.std.proofs.Common.{List, map, ap, ◌∙◌}
use Rattle.std.specs.BTreeMap.{insert_entry}
use Rattle.sdb_page.specs.contracts.place.PlaceOrd.TheImpl.{cmp-value}
use Rattle.sdb_domain.specs.Rows.{seen_row}
use Rattle.sdb_page.specs.Seen.{seen_entry, seen_place}
use Rattle.sdb_page.specs.Spots.{Row, spot_cmp}
use Rattle.sdb_page.proofs.SeenLemmas.{insert_entry-seen}
use Rattle.sdb_page.proofs.PlaceOrder.{places_seen}
use Rattle.sdb_page.proofs.kept.Kept.put.Goals as goal

pub returns : goal.returns
returns c = record {
  ok =
      ap (map seen_entry) c.in_ok-insert.ensures.entries
      ∙ insert_entry-seen cmp-value.it places_seen c.self.inside.rows.entries c.args.place c.args.row
      ∙ ap (λ (rows : List Row). insert_entry spot_cmp rows (seen_place c.args.place) (seen_row c.args.row)) c.self.view_is;
}
