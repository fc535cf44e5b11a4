use Rattle.sdb_serve.specs.Acts.{story_of}
use Rattle.sdb_arrivals.specs.Story.{Ended, answer_of}
use Rattle.sdb_serve.proofs.ShiftLemmas.{Shift-ended}
use Rattle.sdb_serve.proofs.WentLemmas.{Went-ended}
use Rattle.sdb_serve.proofs.turn.end.Goals as goal

pub returns-clause-steady : goal.returns-clause-steady
returns-clause-steady g c = record { ready = c.step-answer.ensures.ready; taken = c.step-answer.ensures.counts.taken; last = c.step-answer.ensures.counts.last }

pub returns-clause-story : goal.returns-clause-story
returns-clause-story g c = λ told o start before now first moments acts buf h rests quiet gave.
    Went-ended c.args.conn (answer_of c.step-answer.result) c.unless_over.result o start first moments acts _ _ _ _ before now h rests quiet
    (c.step-answer.ensures.story told o (story_of acts) h.stands)
    (Shift-ended (answer_of c.step-answer.result) c.args.conn buf before now gave)
    (c.unless_over.ensures.leads (Ended c.args.conn))

pub returns-clause-bad : goal.returns-clause-bad
returns-clause-bad g c = λ file is. c.step-answer.ensures.bad file (c.unless_over.ensures.file file is)
