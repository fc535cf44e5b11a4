use Rattle.sdb_replay.proofs.CompleteLemmas.{done_or_no_memory}
use Rattle.sdb_replay.proofs.playing.replay.Goals as goal

pub returns-clause-complete : goal.returns-clause-complete
returns-clause-complete g c =
    λ well no_key no_read no_write no_disk.
    done_or_no_memory (g.S.Source.left c.args.keys.now) (g.S.Source.left c.open_and_play.new.keys) (g.D.Disk.state c.args.disk.now) (g.D.Disk.state c.open_and_play.new.disk)
    (g.T.Source.left c.args.input.now) (g.T.Source.left c.open_and_play.new.input) (g.K.Sink.written c.args.output.now) (g.K.Sink.written c.open_and_play.new.output) well
    c.open_and_play.result (g.S.Source.faults c.args.keys.now) (g.S.Source.faults c.open_and_play.new.keys) (g.T.Source.faults c.args.input.now) (g.T.Source.faults c.open_and_play.new.input)
    (g.K.Sink.faults c.args.output.now) (g.K.Sink.faults c.open_and_play.new.output)
    c.open_and_play.ensures.ends c.open_and_play.ensures.read c.open_and_play.ensures.write c.open_and_play.ensures.disk
    (c.open_and_play.ensures.sure well.told well.accounts well.number well.stands) no_key no_read no_write no_disk
