use Rattle.std.proofs.Common.{get_or, bit_xor, arith}
use Rattle.std.proofs.lemmas.List.{get_or_default}
use Rattle.std.proofs.lemmas.List.Edits.{map_over_more}
use Rattle.sdb_keys.proofs.mac.masked.Goals as goal

pub loop-b-preserved : goal.loop-b-preserved
loop-b-preserved c =
    let block = c.args.block in
    let items = c.loop-b.b-items in
    let i = c.loop-b.b-index in
    map_over_more (λ b. bit_xor b c.args.mask) block items i (get_or items i 0) (omega arith) c.loop-b.invariant (get_or_default items i 0 (get_or items i 0) (omega arith))
