use Rattle.std.proofs.Common.{arith, sym, ◌∙◌, refl}
use Rattle.sdb_arrivals.specs.Story.{Piece, answer_of}
use Rattle.sdb_disk.proofs.CallLemmas.{Elapses-trans}
use Rattle.sdb_serve.specs.Acts.{resting, story_of}
use Rattle.sdb_serve.proofs.FinishLemmas.{Came-piece, Went-came, Went-next}
use Rattle.sdb_serve.proofs.ServingLemmas.{told-along}
use Rattle.sdb_serve.proofs.ShiftLemmas.{Shift-piece}
use Rattle.sdb_serve.proofs.turn.piece.Goals as goal

pub returns-in-Ok-clause-steady : goal.returns-in-Ok-clause-steady
returns-in-Ok-clause-steady g c = record {
  ready = c.finish.ensures.steady.ready;
  taken = omega (arith, c.finish.ensures.steady.taken, c.step-answer.ensures.counts.taken);
  last = c.finish.ensures.steady.last ∙ c.step-answer.ensures.counts.last;
}

pub returns-in-Err-clause-steady : goal.returns-in-Err-clause-steady
returns-in-Err-clause-steady g c = record { ready = c.step-answer.ensures.ready; taken = c.step-answer.ensures.counts.taken; last = c.step-answer.ensures.counts.last }

pub returns-in-Ok-clause-story : goal.returns-in-Ok-clause-story
returns-in-Ok-clause-story g c = λ told o start before first read moments acts buf h rests quiet gave full front now after.
    let a = answer_of c.step-answer.result in
    let bytes = c.args.bytes.now in
    let came = Came-piece c.args.conn c.args.moment bytes a o start first read moments acts c.args.core.now c.step-answer.new.core _ _ before _
    (λ story messages. c.few_arrivals.ensures story c.args.conn messages) (omega (arith, c.step-answer.ensures.counts.taken, c.requires.bytes)) h rests quiet
    (c.step-answer.ensures.story told o (story_of acts) h.stands) (Shift-piece a c.args.conn c.args.moment bytes buf before _ gave full front) (now, after) in
    Went-next resting 1 0 1 o start first moments acts came.after c.finish.result _ _ _ came.taken refl
    (c.finish.ensures.story (told-along _ _ c.step-answer.ensures.told told) o start first moments came.after c.args.conn came.serving came.turn
    (came.phase ∙ c.in-Ok.ensures.leads (Piece c.args.conn c.args.moment bytes)) came.hand)

pub returns-in-Err-clause-story : goal.returns-in-Err-clause-story
returns-in-Err-clause-story g c = λ told o start before first read moments acts buf h rests quiet gave full front now after.
    let a = answer_of c.step-answer.result in
    let bytes = c.args.bytes.now in
    let came = Came-piece c.args.conn c.args.moment bytes a o start first read moments acts c.args.core.now c.step-answer.new.core _ _ before _
    (λ story messages. c.few_arrivals.ensures story c.args.conn messages) (omega (arith, c.step-answer.ensures.counts.taken, c.requires.bytes)) h rests quiet
    (c.step-answer.ensures.story told o (story_of acts) h.stands) (Shift-piece a c.args.conn c.args.moment bytes buf before _ gave full front) (now, after) in
    Went-came c.in-Err.status c.args.conn a (Piece c.args.conn c.args.moment bytes) o start first moments acts _ _ _ came (c.in-Err.ensures.leads (Piece c.args.conn c.args.moment bytes))

pub returns-in-Err-clause-bad : goal.returns-in-Err-clause-bad
returns-in-Err-clause-bad g c = λ file is. c.step-answer.ensures.bad file (c.in-Err.ensures.file file is)

pub returns-in-Ok-clause-time : goal.returns-in-Ok-clause-time
returns-in-Ok-clause-time g c = Elapses-trans _ _ _ c.step-answer.ensures.time c.finish.ensures.time
