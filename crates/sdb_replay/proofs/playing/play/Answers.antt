use Rattle.std.proofs.Common.{◌≡◌, Some, None, Err, sym, ◌∙◌, ap, subst, arith}
use Rattle.std.specs.Prelude.{IsTrue}
use Rattle.sdb_arrivals.specs.Story.{event_of as story_event}
use Rattle.sdb_disk.proofs.CallLemmas.{Elapses-refl}
use Rattle.sdb_script.specs.Events.{event_of}
use Rattle.sdb_replay.specs.Running.{status_by}
use Rattle.sdb_replay.proofs.PlayLemmas.{Playing, can_come, ends_done, ends_fault, ends_to, is_read, playing_none, plays_on, reads_on, rose_since}
use Rattle.sdb_replay.proofs.playing.play.Goals as goal

pub events-init : goal.events-init
events-init g c = record {
  playing = subst (λ r. Playing c.args.core.now c.args.core.now (g.D.Disk.state c.args.disk.now) (g.D.Disk.state c.args.disk.now) (g.T.Source.left c.args.input.now)
      (g.T.Source.left c.args.input.now) (g.K.Sink.written c.args.output.now) (g.K.Sink.written c.args.output.now) r) (sym c.new-reader.ensures)
      (playing_none c.args.core.now (g.D.Disk.state c.args.disk.now) (g.T.Source.left c.args.input.now) (g.K.Sink.written c.args.output.now)
      c.requires.empty.0 c.requires.empty.1 c.requires.empty.2 c.requires.ready (Elapses-refl (g.D.Disk.state c.args.disk.now) (λ t f le image. g.met.D.Disk.counts_now c.args.disk.now t f le image)
      (λ f left. g.met.D.Disk.only_now c.args.disk.now f left)));
  later_read = omega arith;
  later_write = omega arith;
}

pub returns-in-Err-clause-plays : goal.returns-in-Err-clause-plays
returns-in-Err-clause-plays g c =
    let gives = c.in-Err.ensures.gives in
    ends_fault _ _ _ _ _ _ _ _ _ _ _ c.events.invariant.playing gives.1 c.in-Err.fault c.status_by.result c.status_by.ensures gives.2.0

pub returns-in-Err-clause-read : goal.returns-in-Err-clause-read
returns-in-Err-clause-read g c =
    λ is. rose_since _ _ _ c.events.invariant.later_read (c.in-Err.ensures.read (ap (λ broke. Err broke) (is_read c.in-Err.fault (sym c.status_by.ensures ∙ is))))

pub returns-in_default-clause-plays : goal.returns-in_default-clause-plays
returns-in_default-clause-plays g c =
    let gives = c.in-Ok.ensures.gives in
    ends_done _ _ _ _ _ _ _ _ _ _ _ c.events.invariant.playing gives.1 (event_of c.in-Ok.event) c.next.new.self (c.in_default.ensures) gives.2

pub carry_out-requires-clause-come : goal.carry_out-requires-clause-come
carry_out-requires-clause-come g c =
    let gives = c.in-Ok.ensures.gives in
    can_come _ _ _ _ _ _ _ _ _ _ _ c.events.invariant.playing gives.1 (story_event c.in-Some.happens) (event_of c.in-Ok.event) c.next.new.self c.in-Some.ensures gives.2

pub returns-in-Err-carry_out-clause-plays : goal.returns-in-Err-carry_out-clause-plays
returns-in-Err-carry_out-clause-plays g c =
    let gives = c.in-Ok.ensures.gives in
    ends_to _ _ _ _ _ _ _ _ _ _ _ c.events.invariant.playing gives.1 c.in-Err-carry_out.status c.carry_out.new.core (g.D.Disk.state c.carry_out.new.disk)
    (g.K.Sink.written c.carry_out.new.output) (story_event c.in-Some.happens) (event_of c.in-Ok.event) c.next.new.self c.in-Some.ensures gives.2 c.in-Err-carry_out.ensures.err

pub returns-in-Err-carry_out-clause-sure : goal.returns-in-Err-carry_out-clause-sure
returns-in-Err-carry_out-clause-sure g c =
    λ is_told o stands file is.
    let going = c.events.invariant.playing.going is_told o stands in
    c.in-Err-carry_out.ensures.sure (subst IsTrue (sym c.events.invariant.playing.told) is_told) o going.story going.stands file (ap (λ s. Err s) is)

pub returns-in-Err-carry_out-clause-write : goal.returns-in-Err-carry_out-clause-write
returns-in-Err-carry_out-clause-write g c =
    λ is. rose_since _ _ _ c.events.invariant.later_write (c.in-Err-carry_out.ensures.write (ap (λ s. Err s) is))

pub events-smaller-in_default-carry_out : goal.events-smaller-in_default-carry_out
events-smaller-in_default-carry_out g c =
    let gives = c.in-Ok.ensures.gives in
    let further = reads_on _ _ _ _ _ _ _ _ _ _ _ c.events.invariant.playing gives.1 (story_event c.in-Some.happens) (event_of c.in-Ok.event) c.next.new.self c.in-Some.ensures gives.2 in
    omega (arith, further, c.in-Ok.ensures.within)

pub events-smaller : goal.events-smaller
events-smaller g c =
    let gives = c.in-Ok.ensures.gives in
    let further = reads_on _ _ _ _ _ _ _ _ _ _ _ c.events.invariant.playing gives.1 (story_event c.in-Some.happens) (event_of c.in-Ok.event) c.next.new.self c.in-Some.ensures gives.2 in
    omega (arith, further, c.in-Ok.ensures.within)

pub events-preserved-in_default-carry_out : goal.events-preserved-in_default-carry_out
events-preserved-in_default-carry_out g c =
    let gives = c.in-Ok.ensures.gives in record {
      playing = plays_on _ _ _ _ _ _ _ _ _ _ _ c.events.invariant.playing gives.1 c.carry_out.new.core (g.D.Disk.state c.carry_out.new.disk) (g.K.Sink.written c.carry_out.new.output)
          (story_event c.in-Some.happens) (event_of c.in-Ok.event) c.next.new.self c.in-Some.ensures gives.2 c.in-Ok.ensures.within c.in_default-carry_out.ensures.ok
          c.carry_out.ensures.ready c.carry_out.ensures.time c.carry_out.ensures.told;
      later_read = omega (arith, c.events.invariant.later_read, c.next.ensures.later);
      later_write = omega (arith, c.events.invariant.later_write, c.carry_out.ensures.later);
    }

pub events-preserved : goal.events-preserved
events-preserved g c =
    let gives = c.in-Ok.ensures.gives in record {
      playing = plays_on _ _ _ _ _ _ _ _ _ _ _ c.events.invariant.playing gives.1 c.carry_out.new.core (g.D.Disk.state c.carry_out.new.disk) (g.K.Sink.written c.carry_out.new.output)
          (story_event c.in-Some.happens) (event_of c.in-Ok.event) c.next.new.self c.in-Some.ensures gives.2 c.in-Ok.ensures.within c.in_default-carry_out.ensures.ok
          c.carry_out.ensures.ready c.carry_out.ensures.time c.carry_out.ensures.told;
      later_read = omega (arith, c.events.invariant.later_read, c.next.ensures.later);
      later_write = omega (arith, c.events.invariant.later_write, c.carry_out.ensures.later);
    }

pub returns-in-Err-carry_out-clause-bad : goal.returns-in-Err-carry_out-clause-bad
returns-in-Err-carry_out-clause-bad g c = λ file is. c.in-Err-carry_out.ensures.bad file (ap (λ s. Err s) is)
