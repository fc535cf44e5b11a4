use Rattle.std.proofs.Common.{arith, sym, ◌∙◌, refl}
use Rattle.sdb_disk.proofs.CallLemmas.{Elapses-trans}
use Rattle.sdb_serve.specs.Acts.{committing, resting}
use Rattle.sdb_serve.proofs.FinishLemmas.{Went-next, Went-over}
use Rattle.sdb_serve.proofs.ServingLemmas.{told-along}
use Rattle.sdb_serve.proofs.turn.finish.Goals as goal

pub returns-in-Ok-clause-steady : goal.returns-in-Ok-clause-steady
returns-in-Ok-clause-steady g c = record {
  ready = c.work.ensures.steady.ready;
  taken = omega (arith, c.work.ensures.steady.taken, c.in-Ok.ensures.steady.taken);
  last = c.work.ensures.steady.last ∙ c.in-Ok.ensures.steady.last;
}

pub returns-in-Ok-clause-story : goal.returns-in-Ok-clause-story
returns-in-Ok-clause-story g c = λ told o start first moments acts conn h turn is most.
    let went = c.in-Ok.ensures.story told o start first moments acts conn h turn is most in
    Went-next resting 0 0 0 o start first moments acts went.after c.work.result _ _ _ went.taken refl
    (c.work.ensures.story (told-along _ _ c.in-Ok.ensures.told told) o start _ first moments went.after went.serving went.phase went.quiet)

pub returns-in-Err-clause-story : goal.returns-in-Err-clause-story
returns-in-Err-clause-story g c = λ told o start first moments acts conn h turn is most.
    Went-over committing resting 0 o start first moments acts c.in-Err.status _ _ _ (c.in-Err.ensures.story told o start first moments acts conn h turn is most)

pub returns-in-Ok-clause-time : goal.returns-in-Ok-clause-time
returns-in-Ok-clause-time g c = Elapses-trans _ _ _ c.in-Ok.ensures.time c.work.ensures.time
