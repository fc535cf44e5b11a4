use Rattle.std.proofs.Common.{◌≡◌, Err, arith, sym, ◌∙◌, ap, subst}
use Rattle.sdb_arrivals.specs.Story.{Commit, answer_of}
use Rattle.sdb_core.specs.Kept.{View}
use Rattle.sdb_disk.specs.Disk.{Elapses}
use Rattle.sdb_serve.specs.Acts.{story_of}
use Rattle.sdb_serve.proofs.ServingLemmas.{told-along}
use Rattle.sdb_serve.proofs.TurnLemmas.{any-commit, committed-ok, committed-err}
use Rattle.sdb_status.specs.declared.status.Status.TheVariants.{NotAStore}
use Rattle.sdb_store.specs.Opened.{IsBadFile}
use Rattle.sdb_serve.proofs.turn.commit.Goals as goal

pub returns-in-Ok-clause-steady : goal.returns-in-Ok-clause-steady
returns-in-Ok-clause-steady g c = record {
  ready = c.end_lost.ensures.steady.ready;
  taken = omega (arith, c.step-answer.ensures.counts.taken, ap (λ (v : View). v.table.bytes_taken) c.send_all-now.ensures.core, c.end_lost.ensures.steady.taken);
  last = c.end_lost.ensures.steady.last ∙ ap (λ (v : View). v.table.last_opened) c.send_all-now.ensures.core ∙ c.step-answer.ensures.counts.last;
}

pub returns-in-Err-clause-steady : goal.returns-in-Err-clause-steady
returns-in-Err-clause-steady g c = record {
  ready = c.end_lost.ensures.steady.ready;
  taken = omega (arith, c.step-answer.ensures.counts.taken, ap (λ (v : View). v.table.bytes_taken) c.send_all-now.ensures.core, c.end_lost.ensures.steady.taken);
  last = c.end_lost.ensures.steady.last ∙ ap (λ (v : View). v.table.last_opened) c.send_all-now.ensures.core ∙ c.step-answer.ensures.counts.last;
}

pub returns-in-Ok-clause-story : goal.returns-in-Ok-clause-story
returns-in-Ok-clause-story g c = λ told o start first moments acts conn h turn due.
    let t = c.step-answer.ensures.story told o (story_of acts) h.stands in
    let sends = c.send_all-now.ensures in
    let all = any-commit (answer_of c.step-answer.result) o start first moments acts conn c.args.lost c.send_all-now.result
    c.args.core.now c.step-answer.new.core c.send_all-now.new.core c.end_lost.new.core
    (g.D.Disk.state c.args.disk.now) (g.D.Disk.state c.step-answer.new.disk) (g.D.Disk.state c.end_lost.new.disk)
    (g.L.Links.state c.args.links.now) (g.L.Links.state c.send_all-now.new.links)
    h turn due t sends.core c.end_lost.ensures.faults sends.told sends.last sends.later sends.none sends.sends
    (c.end_lost.ensures.story (told-along _ _ c.step-answer.ensures.told told) o) in
    committed-ok (answer_of c.step-answer.result) o start first moments acts conn c.send_all-now.result c.args.core.now c.step-answer.new.core _ _ _ _ _ all (c.in-Ok.ensures.leads Commit) c.step-answer.ensures.cause

pub returns-in-Err-clause-story : goal.returns-in-Err-clause-story
returns-in-Err-clause-story g c = λ told o start first moments acts conn h turn due.
    let t = c.step-answer.ensures.story told o (story_of acts) h.stands in
    let sends = c.send_all-now.ensures in
    let all = any-commit (answer_of c.step-answer.result) o start first moments acts conn c.args.lost c.send_all-now.result
    c.args.core.now c.step-answer.new.core c.send_all-now.new.core c.end_lost.new.core
    (g.D.Disk.state c.args.disk.now) (g.D.Disk.state c.step-answer.new.disk) (g.D.Disk.state c.end_lost.new.disk)
    (g.L.Links.state c.args.links.now) (g.L.Links.state c.send_all-now.new.links)
    h turn due t sends.core c.end_lost.ensures.faults sends.told sends.last sends.later sends.none sends.sends
    (c.end_lost.ensures.story (told-along _ _ c.step-answer.ensures.told told) o) in
    committed-err (answer_of c.step-answer.result) o start first moments acts conn c.send_all-now.result c.in-Err.status c.step-answer.new.core _ _ _ all (c.in-Err.ensures.leads Commit)

pub returns-in-Err-clause-bad : goal.returns-in-Err-clause-bad
returns-in-Err-clause-bad g c = λ file is.
    let named : c.in-Err.status ≡ NotAStore file = cc in
    subst (λ d. IsBadFile file (g.D.Disk.state d)) (sym c.end_lost.ensures.disk) (c.step-answer.ensures.bad file (c.in-Err.ensures.file file (ap Err named)))

pub returns-in-Ok-clause-time : goal.returns-in-Ok-clause-time
returns-in-Ok-clause-time g c =
    subst (λ d. Elapses (g.D.Disk.state c.args.disk.now) (g.D.Disk.state d)) (sym c.end_lost.ensures.disk) c.step-answer.ensures.time

pub returns-in-Err-clause-time : goal.returns-in-Err-clause-time
returns-in-Err-clause-time g c =
    subst (λ d. Elapses (g.D.Disk.state c.args.disk.now) (g.D.Disk.state d)) (sym c.end_lost.ensures.disk) c.step-answer.ensures.time
