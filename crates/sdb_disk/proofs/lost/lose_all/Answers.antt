use Rattle.std.proofs.Common.{◌≡◌, [], length, reverse, arith}
use Rattle.std.proofs.lemmas.List.{nil_from_length}
use Rattle.sdb_disk.specs.Crash.{crashed}
use Rattle.sdb_disk.proofs.ContentLemmas.{four_changed}
use Rattle.sdb_disk.proofs.CrashLemmas.{length-crashed}
use Rattle.sdb_disk.proofs.lost.lose_all.Goals as goal

pub returns : goal.returns
returns c k =
    let four : length c.args.files ≡ 4 = grind (arith, c.well_formed) in
    let calls = reverse c.args.calls.now in
    four_changed (λ j content. crashed c.args.fill j calls content) c.args.files c.c0-1.given.0 c.c1-1.given.0 c.j0-1.given.0 c.j1-1.given.0
    c.lose.result c.lose-2.result c.lose-3.result c.lose-4.result four
    (λ j. nil_from_length _ (length-crashed c.args.fill j calls []))
    c.c0-1.given.1 c.c1-1.given.1 c.j0-1.given.1 c.j1-1.given.1 c.lose.ensures c.lose-2.ensures c.lose-3.ensures c.lose-4.ensures k
