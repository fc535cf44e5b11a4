use Rattle.std.proofs.Common.{◌++◌, take, refl}
use Rattle.std.proofs.lemmas.List.{drop-drop}
use Rattle.sdb_format.specs.Numbers.{be32}
use Rattle.sdb_store.proofs.FrameLemmas.{count_written}
use Rattle.sdb_store.proofs.frame.write_count.Goals as goal

pub returns : goal.returns
returns c =
    let frame = c.args.frame.now in
    count_written frame (be32 c.args.count) _ c.requires refl (λ k. take 12 frame ++ (c.copy_from_slice.ensures.after k ++ drop-drop 4 12 frame k))
