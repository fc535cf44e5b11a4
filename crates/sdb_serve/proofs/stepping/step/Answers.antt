use Rattle.sdb_arrivals.specs.Story.{answer_of, event_of}
use Rattle.sdb_core.proofs.FindLemmas.{bad_file}
use Rattle.sdb_serve.proofs.DoLemmas.{turns-counts}
use Rattle.sdb_serve.proofs.stepping.step.Goals as goal

pub returns-clause-counts : goal.returns-clause-counts
returns-clause-counts g c = turns-counts _ _ _ _ _ _ c.step.ensures.exact.turns

pub returns-clause-story : goal.returns-clause-story
returns-clause-story g c = λ told o story stands.
    let t = c.step.ensures.story told o story stands in
    record { came = t.came; refused = t.refused; stands = t.stands; out = t.out; counted = t.counted; sure = c.step.ensures.sure told o story stands }

pub returns-clause-bad : goal.returns-clause-bad
returns-clause-bad g c = λ file is.
    bad_file (event_of c.args.event) (answer_of c.step.result) c.args.core.now c.step.new.self (g.D.Disk.state c.args.disk.now) (g.D.Disk.state c.step.new.disk)
    c.step.ensures.cause c.step.ensures.files file is
