use Rattle.std.proofs.Common.{◌≡◌, drop}
use Rattle.sdb_base.specs.Results.{each}
use Rattle.sdb_action.proofs.Gathering.{after_members}
use Rattle.sdb_action.proofs.each.each.Given as goal

abbrev pub invariant-loop-parts : goal.invariant-loop-parts
invariant-loop-parts g l = after_members l.members (each g.T.FromParts.reads (drop l.parts-index l.parts-items)) ≡ each g.T.FromParts.reads l.list
