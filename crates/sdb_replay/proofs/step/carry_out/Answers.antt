use Rattle.std.proofs.Common.{◌≡◌, ℕ, List, ◌+◌, length, map, Some, sym, ◌∙◌, ap, subst}
use Rattle.std.specs.Io.KnownBytes.{Appends}
use Rattle.sdb_arrivals.specs.Story.{Arrival, answer_of, event_of}
use Rattle.sdb_arrivals.specs.Tables.{Turns}
use Rattle.sdb_core.specs.Kept.{View}
use Rattle.sdb_core.specs.Told.{released_of}
use Rattle.sdb_replay.specs.Endings.{AppendsFront}
use Rattle.sdb_core.proofs.FindLemmas.{bad_file}
use Rattle.sdb_status.specs.declared.status.Status.TheVariants.{NotAStore}
use Rattle.sdb_replay.proofs.StepLemmas.{carried, carries_to, ends_bad, front_none}
use Rattle.sdb_replay.proofs.step.carry_out.Goals as goal

pub returns-in_default-clause-err : goal.returns-in_default-clause-err
returns-in_default-clause-err g c = (
  answer_of c.step-answer.result,
  carried (AppendsFront (g.K.Sink.written c.args.output.now) (g.K.Sink.written c.args.output.now)) (event_of c.args.happens) (answer_of c.step-answer.result)
      c.args.core.now c.step-answer.new.self c.step_text.new.core (g.D.Disk.state c.args.disk.now) (g.D.Disk.state c.step-answer.new.disk) _ _
      c.requires.quiet c.step_text.ensures.core c.step-answer.ensures.story (front_none (g.K.Sink.written c.args.output.now) _),
)

pub returns-in_default-write_whole-clause-err : goal.returns-in_default-write_whole-clause-err
returns-in_default-write_whole-clause-err g c = (
  answer_of c.step-answer.result,
  carried (AppendsFront (g.K.Sink.written c.args.output.now) (g.K.Sink.written c.write_whole.new.sink)) (event_of c.args.happens) (answer_of c.step-answer.result)
      c.args.core.now c.step-answer.new.self c.step_text.new.core (g.D.Disk.state c.args.disk.now) (g.D.Disk.state c.step-answer.new.disk) _ _
      c.requires.quiet c.step_text.ensures.core c.step-answer.ensures.story
      (subst (λ text. AppendsFront (g.K.Sink.written c.args.output.now) (g.K.Sink.written c.write_whole.new.sink) text) (c.as_slice.ensures ∙ c.in-Ok.ensures.text) c.write_whole.ensures.front),
)

pub returns-in-Some-clause-err : goal.returns-in-Some-clause-err
returns-in-Some-clause-err g c =
    carries_to c.in-Some.status (event_of c.args.happens) (answer_of c.step-answer.result) c.args.core.now c.step_text.new.core
    (g.D.Disk.state c.args.disk.now) (g.D.Disk.state c.step-answer.new.disk) (g.K.Sink.written c.args.output.now) (g.K.Sink.written c.write_whole.new.sink)
    (sym c.in-Some.ensures)
    (carried (Appends (g.K.Sink.written c.args.output.now) (g.K.Sink.written c.write_whole.new.sink)) (event_of c.args.happens) (answer_of c.step-answer.result)
    c.args.core.now c.step-answer.new.self c.step_text.new.core (g.D.Disk.state c.args.disk.now) (g.D.Disk.state c.step-answer.new.disk) _ _
    c.requires.quiet c.step_text.ensures.core c.step-answer.ensures.story
    (subst (λ text. Appends (g.K.Sink.written c.args.output.now) (g.K.Sink.written c.write_whole.new.sink) text) (c.as_slice.ensures ∙ c.in-Ok.ensures.text) c.in-Ok-write_whole.ensures.whole))

pub returns-clause-ok : goal.returns-clause-ok
returns-clause-ok g c = record {
  answer = answer_of c.step-answer.result;
  goes = sym c.in-None.ensures;
  released = released_of c.args.core.now;
  came = map (λ (w : Arrival). w.framed) c.step-answer.ensures.exact.came;
  turns = subst (λ table. Turns (event_of c.args.happens) (answer_of c.step-answer.result) (released_of c.args.core.now)
      (map (λ (w : Arrival). w.framed) c.step-answer.ensures.exact.came) c.args.core.now.table table)
      (sym (ap (λ (v : View). v.table) c.step_text.ensures.core)) c.step-answer.ensures.exact.turns;
  quiet = c.in-Ok.ensures.quiet;
  carries = carried (Appends (g.K.Sink.written c.args.output.now) (g.K.Sink.written c.write_whole.new.sink)) (event_of c.args.happens) (answer_of c.step-answer.result)
      c.args.core.now c.step-answer.new.self c.step_text.new.core (g.D.Disk.state c.args.disk.now) (g.D.Disk.state c.step-answer.new.disk) _ _
      c.requires.quiet c.step_text.ensures.core c.step-answer.ensures.story
      (subst (λ text. Appends (g.K.Sink.written c.args.output.now) (g.K.Sink.written c.write_whole.new.sink) text) (c.as_slice.ensures ∙ c.in-Ok.ensures.text) c.in-Ok-write_whole.ensures.whole);
}

pub returns-in-Some-clause-bad : goal.returns-in-Some-clause-bad
returns-in-Some-clause-bad g c =
    λ file is.
    let named : c.in-Some.status ≡ NotAStore file = cc in
    bad_file (event_of c.args.happens) (answer_of c.step-answer.result) c.args.core.now c.step-answer.new.self (g.D.Disk.state c.args.disk.now) (g.D.Disk.state c.step-answer.new.disk)
    c.step-answer.ensures.cause c.step-answer.ensures.files file
    (ends_bad (event_of c.args.happens) (answer_of c.step-answer.result) file (sym c.in-Some.ensures ∙ ap Some named))
