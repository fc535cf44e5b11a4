use Rattle.std.proofs.Common.{◌≡◌, Err, false, true, refl, sym, ap, ◌∙◌, arith, rules}
use Rattle.sdb_disk.proofs.CallLemmas.{Elapses-trans}
use Rattle.sdb_serve.specs.Acts.{committing}
use Rattle.sdb_serve.proofs.CommitsLemmas.{Keeps, SoFar-due, SoFar-first, SoFar-more, Went-err, Went-quiet, steady-trans, to-commit-due}
use Rattle.sdb_serve.proofs.ServingLemmas.{told-along}
use Rattle.sdb_status.specs.declared.status.Status.TheVariants.{NotAStore}
use Rattle.sdb_serve.proofs.turn.commit_all.Goals as goal

pub returns-in-Err-clause-story : goal.returns-in-Err-clause-story
returns-in-Err-clause-story g c = λ told o start first moments acts conn h turn is most.
    Went-err committing o start first moments acts acts conn c.in-Err.status _ _ _ refl (c.in-Err.ensures.story told o start first moments acts conn h turn (to-commit-due o acts is))

pub loop-made-init : goal.loop-made-init
loop-made-init g c = record {
  ready = c.in-Ok.ensures.steady.ready;
  bytes = omega (arith, c.in-Ok.ensures.steady.taken);
  last = c.in-Ok.ensures.steady.last;
  told = c.in-Ok.ensures.told;
  time = c.in-Ok.ensures.time;
  steady = c.in-Ok.ensures.links;
  story = λ told o start first moments acts conn h turn is most.
      SoFar-first o start first moments acts conn c.in-Ok.lost _ _ _ most (c.in-Ok.ensures.story told o start first moments acts conn h turn (to-commit-due o acts is));
}

pub returns-then-not-is_waiting-clause-story : goal.returns-then-not-is_waiting-clause-story
returns-then-not-is_waiting-clause-story g c = λ told o start first moments acts conn h turn is most.
    let none : c.is_waiting.result ≡ false = search rules in
    Went-quiet o start first moments acts conn c.loop-made.lost c.loop-made._made c.loop-made.core _ _ (c.loop-made.invariant.story told o start first moments acts conn h turn is most) (sym c.is_waiting.ensures ∙ none)

pub returns-in-Err-commit-clause-story : goal.returns-in-Err-commit-clause-story
returns-in-Err-commit-clause-story g c = λ told o start first moments acts conn h turn is most.
    let so_far = c.loop-made.invariant.story told o start first moments acts conn h turn is most in
    let waiting : c.is_waiting.result ≡ true = search rules in
    let some = sym c.is_waiting.ensures ∙ waiting in
    Went-err committing o start first moments acts so_far.after conn c.in-Err-commit.status _ _ _ so_far.taken
    (c.in-Err-commit.ensures.story (told-along _ _ c.loop-made.invariant.told told) o start first moments so_far.after conn so_far.serving so_far.turn
    (SoFar-due o start first moments acts conn c.loop-made.lost c.loop-made._made c.loop-made.core _ _ so_far some))

pub loop-made-preserved : goal.loop-made-preserved
loop-made-preserved g c =
    let next = c.in-Ok-commit.ensures in
    let so_far_all = c.loop-made.invariant in
    record {
      ready = next.steady.ready;
      bytes = omega (arith, next.steady.taken, so_far_all.bytes);
      last = next.steady.last ∙ so_far_all.last;
      told = next.told ∙ so_far_all.told;
      time = Elapses-trans _ _ _ so_far_all.time next.time;
      steady = steady-trans _ _ _ so_far_all.steady next.links;
      story = λ told o start first moments acts conn h turn is most.
          let so_far = so_far_all.story told o start first moments acts conn h turn is most in
          let waiting : c.is_waiting.result ≡ true = search rules in
          let some = sym c.is_waiting.ensures ∙ waiting in
          SoFar-more o start first moments acts conn c.loop-made.lost c.in-Ok-commit.lost c.loop-made._made c.loop-made.core _ _ _ _ _ so_far some
          (next.story (told-along _ _ so_far_all.told told) o start first moments so_far.after conn so_far.serving so_far.turn
          (SoFar-due o start first moments acts conn c.loop-made.lost c.loop-made._made c.loop-made.core _ _ so_far some));
    }

pub returns-clause-story : goal.returns-clause-story
returns-clause-story g c = λ told o start first moments acts conn h turn is most.
    let so_far = c.loop-made.invariant.story told o start first moments acts conn h turn is most in
    absurd (omega (arith, so_far.left))

pub returns-in-Err-commit-clause-time : goal.returns-in-Err-commit-clause-time
returns-in-Err-commit-clause-time g c = Elapses-trans _ _ _ c.loop-made.invariant.time c.in-Err-commit.ensures.time

pub returns-in-Err-commit-clause-bad : goal.returns-in-Err-commit-clause-bad
returns-in-Err-commit-clause-bad g c = λ file is.
    let named : c.in-Err-commit.status ≡ NotAStore file = cc in
    c.in-Err-commit.ensures.bad file (ap Err named)

pub returns-in-Err-clause-bad : goal.returns-in-Err-clause-bad
returns-in-Err-clause-bad g c = λ file is.
    let named : c.in-Err.status ≡ NotAStore file = cc in
    c.in-Err.ensures.bad file (ap Err named)
