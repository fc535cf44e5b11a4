use Rattle.std.proofs.Common.{◌<◌, arith, length}
use Rattle.std.proofs.lemmas.Result.{err_from_is_err_and}
use Rattle.sdb_action.proofs.Gathering.{refused_at}
use Rattle.sdb_action.proofs.each.each.Goals as goal

pub returns-in_err-from_parts : goal.returns-in_err-from_parts
returns-in_err-from_parts g c =
    let p = err_from_is_err_and c.from_residual.result c.from_residual.ensures.1 in
    let within : c.loop-parts.parts-index < length c.as_slice-parts-items.result.now = omega arith in
    rw (p.1, p.2) (refused_at g.T.FromParts.reads c.loop-parts.members c.as_slice-parts-items.result.now c.loop-parts.parts-index _ _ _ within c.parts-item.is c.loop-parts.invariant c.in_err-from_parts.ensures)
