use Rattle.std.proofs.Common.{◌++◌, take, ap, ◌∙◌}
use Rattle.sdb_journal.proofs.WindowLemmas.{put_front}
use Rattle.sdb_journal.proofs.window.read_from.Goals as goal

pub returns-in-Ok-clause-read : goal.returns-in-Ok-clause-read
returns-in-Ok-clause-read g c told =
    put_front c.args.buf.now c.read.new.buf c.args.kept _ c.in-Ok.count c.requires.kept c.in-Ok.ensures.bound.0
    ∙ ap (λ l. take c.args.kept c.args.buf.now ++ l) (c.in-Ok.ensures.bytes told)
