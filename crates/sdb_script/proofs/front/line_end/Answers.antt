use Rattle.std.proofs.Common.{◌==◌, ◌∙◌, ap, take, position}
use Rattle.std.proofs.lemmas.List.{take_min}
use Rattle.sdb_base.specs.Ascii.{line_feed}
use Rattle.sdb_script.proofs.front.line_end.Goals as goal

pub returns-clause-place : goal.returns-clause-place
returns-clause-place c = c.first_line_feed.ensures.place ∙ ap (position (λ b. b == line_feed)) (ap (λ n. take n c.args.bytes.now) c.min.ensures ∙ take_min 32 c.args.bytes.now)
