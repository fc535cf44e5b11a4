use Rattle.std.proofs.Common.{◌≡◌, take, option_map, subst}
use Rattle.sdb_domain.specs.Rows.{seen_row}
use Rattle.sdb_page.specs.Seen.{offered_at, seen_place}
use Rattle.sdb_page.specs.Spots.{spot_of}
use Rattle.sdb_page.proofs.KeptLemmas.{kept_all, kept_few, kept_more, placed_of}
use Rattle.sdb_page.proofs.kept.keep.Goals as goal

pub offer-requires : goal.offer-requires
offer-requires c = kept_few c.args.sort.now (option_map seen_place c.args.start) c.args.most (placed_of c.args.sort.now (take c.loop-row.row-index c.args.rows.now)) c.loop-row.kept c.loop-row.invariant

pub loop-row-preserved : goal.loop-row-preserved
loop-row-preserved c =
    let start = option_map seen_place c.args.start in
    kept_more c.args.sort.now start c.args.most c.args.rows.now c.loop-row.row-index c.row-item.result c.loop-row.kept c.offer.new.kept c.loop-row-test.true c.loop-row.invariant
    (subst (λ lent. c.offer.new.kept ≡ offered_at start c.args.most c.loop-row.kept (spot_of c.args.sort.now (seen_row lent)) (seen_row lent)) c.row-item.is c.in_ok-offer.ensures)

pub returns : goal.returns
returns c = kept_all c.args.sort.now (option_map seen_place c.args.start) c.args.most c.args.rows.now c.loop-row.row-index c.loop-row.kept c.loop-row-test.false c.loop-row.invariant
