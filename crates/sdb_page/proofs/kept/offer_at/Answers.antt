use Rattle.std.proofs.Common.{length, ap, arith}
use Rattle.sdb_domain.specs.Rows.{seen_row}
use Rattle.sdb_page.specs.Seen.{seen_place}
use Rattle.sdb_page.specs.Spots.{Row, spot_cmp}
use Rattle.sdb_page.proofs.KeptLemmas.{put_one}
use Rattle.sdb_page.proofs.kept.offer_at.Goals as goal

pub trim-requires : goal.trim-requires
trim-requires c =
    omega (arith, put_one spot_cmp c.args.kept.now (seen_place c.args.place) (seen_row c.args.row), ap (length {A = Row}) c.in_ok-put.ensures.ok, c.requires)
