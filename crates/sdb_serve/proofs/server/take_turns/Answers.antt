use Rattle.std.proofs.Common.{[], true, false, Err, ap, refl, sym, ◌∙◌, arith}
use Rattle.sdb_disk.proofs.CallLemmas.{Elapses-refl, Elapses-trans}
use Rattle.sdb_serve.proofs.ServingLemmas.{told-along}
use Rattle.sdb_serve.proofs.TurnedLemmas.{Ends-closed, Ends-done, Ends-err, Serving-first, Turned-at}
use Rattle.sdb_serve.proofs.server.take_turns.Goals as goal

pub loop-made-init : goal.loop-made-init
loop-made-init g c = record {
  ready = c.requires.ready;
  opened = omega (arith, c.requires.opened);
  bytes = omega (arith, c.requires.bytes);
  told = refl;
  time = Elapses-refl (g.D.Disk.state c.args.disk.now) (λ t f le image. g.met.D.Disk.counts_now c.args.disk.now t f le image) (λ f left. g.met.D.Disk.only_now c.args.disk.now f left);
  later = omega arith;
  story = λ told o stands out. ([], Serving-first o c.args.core.now _ _ _ stands out, refl, refl, refl);
}

pub loop-made-preserved : goal.loop-made-preserved
loop-made-preserved g c =
    let so_far = c.loop-made.invariant in
    let next = c.in-Ok-true.ensures in
    record {
      ready = next.ready;
      opened = next.opened;
      bytes = omega (arith, next.taken, so_far.bytes);
      told = next.told ∙ so_far.told;
      time = Elapses-trans _ _ _ so_far.time next.time;
      later = omega (arith, next.later, so_far.later);
      story = λ told o stands out.
          let now = so_far.story told o stands out in
          let turned = Turned-at true c.in-Ok-true.field-0 o _ _ _ now.0 _ _ _ c.in-Ok-true.field-0-test (next.story (told-along _ _ so_far.told told) o _ _ now.0 now.1 now.2 now.3) in
          (turned.after, turned.serving, turned.into.0, turned.quiet refl, turned.into.1 ∙ omega (arith, now.4));
    }

pub returns-in-Ok-false-clause-served : goal.returns-in-Ok-false-clause-served
returns-in-Ok-false-clause-served g c = λ told o stands out.
    let so_far = c.loop-made.invariant in
    let now = so_far.story told o stands out in
    Ends-closed o _ _ _ now.0 c.args.turns c.loop-made._made _ _ _ now.4 (omega arith)
    (Turned-at false c.in-Ok-false.field-0 o _ _ _ now.0 _ _ _ c.in-Ok-false.field-0-test (c.in-Ok-false.ensures.story (told-along _ _ so_far.told told) o _ _ now.0 now.1 now.2 now.3))

pub returns-in-Err-clause-served : goal.returns-in-Err-clause-served
returns-in-Err-clause-served g c = λ told o stands out.
    let so_far = c.loop-made.invariant in
    let now = so_far.story told o stands out in
    Ends-err c.in-Err.status o _ _ _ now.0 c.args.turns c.loop-made._made _ _ _ now.2 now.4 (omega arith) (c.in-Err.ensures.story (told-along _ _ so_far.told told) o _ _ now.0 now.1 now.2 now.3)

pub returns-clause-served : goal.returns-clause-served
returns-clause-served g c = λ told o stands out.
    let now = c.loop-made.invariant.story told o stands out in
    Ends-done o _ _ _ now.0 c.args.turns _ _ _ now.1 now.2 (now.4 ∙ omega arith)

pub returns-in-Err-clause-bad : goal.returns-in-Err-clause-bad
returns-in-Err-clause-bad g c = λ file is. c.in-Err.ensures.bad file (ap Err is)

pub returns-in-Ok-false-clause-time : goal.returns-in-Ok-false-clause-time
returns-in-Ok-false-clause-time g c = Elapses-trans _ _ _ c.loop-made.invariant.time c.in-Ok-false.ensures.time

pub returns-in-Err-clause-time : goal.returns-in-Err-clause-time
returns-in-Err-clause-time g c = Elapses-trans _ _ _ c.loop-made.invariant.time c.in-Err.ensures.time
