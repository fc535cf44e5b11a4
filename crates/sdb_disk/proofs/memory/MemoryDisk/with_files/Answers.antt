use Rattle.std.proofs.Common.{◌≡◌, length, ap, ◌∙◌, arith}
use Rattle.sdb_disk.specs.Past.{contents}
use Rattle.sdb_disk.proofs.ContentLemmas.{four_vectors}
use Rattle.sdb_disk.proofs.memory.MemoryDisk.with_files.Goals as goal

pub settled_disk-requires : goal.settled_disk-requires
settled_disk-requires c k =
    let four : length c.args.files ≡ 4 = grind (arith, c.well_formed) in
    let same = four_vectors c.args.files _ _ _ _ c.into_vec.result c.into_vec-2.result c.into_vec-3.result c.into_vec-4.result four c.c0-1.given.1 c.c1-1.given.1 c.j0-1.given.1 c.j1-1.given.1
    c.into_vec.ensures c.into_vec-2.ensures c.into_vec-3.ensures c.into_vec-4.ensures k in
    omega (arith, ap length same, c.requires k)

pub returns-clause-files : goal.returns-clause-files
returns-clause-files c k =
    let four : length c.args.files ≡ 4 = grind (arith, c.well_formed) in
    ap (λ fs. contents fs k) c.settled_disk.ensures.files
    ∙ four_vectors c.args.files _ _ _ _ c.into_vec.result c.into_vec-2.result c.into_vec-3.result c.into_vec-4.result four c.c0-1.given.1 c.c1-1.given.1 c.j0-1.given.1 c.j1-1.given.1
    c.into_vec.ensures c.into_vec-2.ensures c.into_vec-3.ensures c.into_vec-4.ensures k
