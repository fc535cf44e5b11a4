use Rattle.std.proofs.Common.{◌*◌, ◌^◌}
use Rattle.sdb_script.specs.Draws.{next_state}
use Rattle.sdb_script.proofs.DrawLemmas.{mod-add}
use Rattle.sdb_script.proofs.draws.following.Goals as goal

pub returns : goal.returns
unfolding next_state
returns c = mod-add (c.args.state * 6364136223846793005) 1442695040888963407 (2 ^ 64)
