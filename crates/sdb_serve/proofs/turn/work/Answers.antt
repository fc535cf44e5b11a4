use Rattle.sdb_serve.specs.Acts.{story_of}
use Rattle.sdb_arrivals.specs.Story.{Work, answer_of}
use Rattle.sdb_serve.proofs.WentLemmas.{Went-worked}
use Rattle.sdb_serve.proofs.turn.work.Goals as goal

pub returns-clause-steady : goal.returns-clause-steady
returns-clause-steady g c = record { ready = c.step-answer.ensures.ready; taken = c.step-answer.ensures.counts.taken; last = c.step-answer.ensures.counts.last }

pub returns-clause-story : goal.returns-clause-story
returns-clause-story g c = λ told o start now first moments acts h commits quiet.
    Went-worked (answer_of c.step-answer.result) c.unless_no_store.result o start first moments acts _ _ _ _ now h commits quiet
    (c.step-answer.ensures.story told o (story_of acts) h.stands) (c.unless_no_store.ensures.leads Work)

pub returns-clause-bad : goal.returns-clause-bad
returns-clause-bad g c = λ file is. c.step-answer.ensures.bad file (c.unless_no_store.ensures.file file is)
