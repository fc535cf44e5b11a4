use Rattle.std.proofs.Common.{map}
use Rattle.sdb_page.specs.Seen.{seen_entry}
use Rattle.sdb_page.specs.Selects.{room_of}
use Rattle.sdb_page.specs.Spots.{most_bytes}
use Rattle.sdb_page.proofs.CutLemmas.{Cutting}
use Rattle.sdb_page.proofs.paging.page_len.Given as goal

abbrev pub invariant-loop-place : goal.invariant-loop-place
invariant-loop-place l = Cutting (room_of l.output) l.limit most_bytes l.room (map seen_entry l.rows) l.place
