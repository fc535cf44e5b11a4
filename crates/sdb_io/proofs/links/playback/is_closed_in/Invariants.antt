use Rattle.std.proofs.Common.{◌≡◌, drop}
use Rattle.std.specs.Prelude.{map}
use Rattle.sdb_io.specs.Playback.{stage_in, step_of}
use Rattle.sdb_io.proofs.links.playback.is_closed_in.Given as goal

-- what is left decides
abbrev pub invariant-loop-step : goal.invariant-loop-step
invariant-loop-step l = stage_in (map step_of (drop l.step-index l.steps)) l.conn ≡ stage_in (map step_of l.steps) l.conn
