use Rattle.std.proofs.Common.{◌≡◌, take, option_map}
use Rattle.sdb_page.specs.Seen.{seen_place}
use Rattle.sdb_page.proofs.KeptLemmas.{kept_of, placed_of}
use Rattle.sdb_page.proofs.kept.keep.Given as goal

abbrev pub invariant-loop-row : goal.invariant-loop-row
invariant-loop-row l = l.kept ≡ kept_of l.sort (option_map seen_place l.start) l.most (placed_of l.sort (take l.row-index l.rows))
