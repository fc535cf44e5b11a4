use Rattle.std.proofs.Common.{Err, inr, ap, sym, subst}
use Rattle.std.specs.Prelude.{IsTrue}
use Rattle.sdb_replay.specs.Endings.{opening}
use Rattle.sdb_replay.proofs.StartLemmas.{tells_from}
use Rattle.sdb_replay.proofs.playing.open_and_play.Goals as goal

pub returns-in-Ok-clause-ends : goal.returns-in-Ok-clause-ends
returns-in-Ok-clause-ends g c =
    let plays = c.play.ensures.plays in
    inr (
      c.in-Ok.core.keys,
      c.in-Ok.ensures.keys,
      inr (
        plays.0,
        plays.1,
        plays.2,
        plays.3,
        λ is_told accounts number each. (
          (g.D.Disk.state c.open.new.disk).moment,
          tells_from c.play.result (g.D.Disk.state c.args.disk.now) (g.D.Disk.state c.open.new.disk) (g.D.Disk.state c.play.new.disk) c.in-Ok.core.keys accounts number plays.1
              (g.K.Sink.written c.args.output.now) (g.K.Sink.written c.play.new.output)
              is_told each c.open.ensures.images c.open.ensures.time c.play.ensures.time c.open.ensures.later
              (plays.4 (subst IsTrue (sym c.open.ensures.told) is_told) (opening c.in-Ok.core.keys accounts number (g.D.Disk.state c.open.new.disk).moment)
              (c.in-Ok.ensures.stands is_told accounts number each)),
        ),
      ),
    )

pub returns-in-Ok-clause-sure : goal.returns-in-Ok-clause-sure
returns-in-Ok-clause-sure g c =
    λ is_told accounts number each file is.
    c.play.ensures.sure (subst IsTrue (sym c.open.ensures.told) is_told) (opening c.in-Ok.core.keys accounts number (g.D.Disk.state c.open.new.disk).moment)
    (c.in-Ok.ensures.stands is_told accounts number each) file is

pub returns-in-Err-clause-sure : goal.returns-in-Err-clause-sure
returns-in-Err-clause-sure g c = λ is_told accounts number each file is. c.in-Err.ensures.sure is_told accounts number each file (ap (λ s. Err s) is)

pub returns-in-Err-clause-bad : goal.returns-in-Err-clause-bad
returns-in-Err-clause-bad g c = λ file is. c.in-Err.ensures.bad file (ap (λ s. Err s) is)
