use Rattle.std.proofs.Common.{arith}
use Rattle.sdb_serve.specs.Acts.{story_of}
use Rattle.sdb_arrivals.specs.Story.{Opened, answer_of}
use Rattle.sdb_serve.proofs.ShiftLemmas.{Shift-opened}
use Rattle.sdb_serve.proofs.WentLemmas.{Went-opened}
use Rattle.sdb_serve.proofs.turn.open.Goals as goal

pub returns-clause-story : goal.returns-clause-story
returns-clause-story g c = λ told o start before first moments acts buf h rests quiet gave.
    Went-opened c.args.conn (answer_of c.step-answer.result) c.unless_over.result o start first moments acts _ _ _ _ before _ h rests quiet
    (c.step-answer.ensures.story told o (story_of acts) h.stands)
    (Shift-opened (answer_of c.step-answer.result) c.args.conn buf before _ _ gave c.refuse_full.ensures.links c.refuse_full.ensures.refuses)
    (c.unless_over.ensures.leads (Opened c.args.conn))

pub returns-clause-taken : goal.returns-clause-taken
returns-clause-taken g c = omega (arith, c.step-answer.ensures.counts.taken)

pub returns-clause-last : goal.returns-clause-last
returns-clause-last g c = omega (arith, c.step-answer.ensures.counts.last)

pub returns-clause-bad : goal.returns-clause-bad
returns-clause-bad g c = λ file is. c.step-answer.ensures.bad file (c.unless_over.ensures.file file is)
