use Rattle.std.proofs.Common.{ap, ◌∙◌, sym, arith, is_lt, take}
use Rattle.std.specs.BTreeMap.{insert_entry}
use Rattle.std.proofs.lemmas.List.{length-map}
use Rattle.sdb_page.specs.contracts.place.PlaceOrd.TheImpl.{cmp-value}
use Rattle.sdb_page.specs.Seen.{seen_entry, seen_place}
use Rattle.sdb_page.specs.Spots.{spot_cmp}
use Rattle.sdb_page.proofs.FullLemmas.{full_before}
use Rattle.sdb_page.proofs.PlaceOrder.{places_seen}
use Rattle.sdb_page.proofs.kept.Kept.is_full_before.Goals as goal

pub returns-in-Some : goal.returns-in-Some
returns-in-Some c =
    λ behind item.
    let entries = c.self.inside.rows.entries in
    ap (λ rows. take c.args.most (insert_entry spot_cmp rows (seen_place c.args.place) item)) (sym c.self.view_is)
    ∙ full_before cmp-value.it places_seen c.in-Some.last.now c.args.place (sym (ap is_lt c.cmp.ensures) ∙ sym c.is_lt.ensures ∙ behind) entries c.args.most item c.in-Some.ensures.all_up_to
    (omega (arith, c.if-len-most.false, c.len.ensures.len, length-map entries seen_entry))
    ∙ ap (take c.args.most) c.self.view_is
