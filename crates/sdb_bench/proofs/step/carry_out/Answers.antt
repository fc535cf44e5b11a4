use Rattle.std.proofs.Common.{arith, ap, length, map, subst}
use Rattle.sdb_arrivals.specs.Framing.{live}
use Rattle.sdb_arrivals.specs.Story.{Arrival, answer_by, event_of}
use Rattle.sdb_core.specs.Ledgers.{count_released}
use Rattle.sdb_core.specs.Told.{IsFullWhere, released_of}
use Rattle.sdb_bench.proofs.StepLemmas.{carries_on, few_answers, not_full}
use Rattle.sdb_bench.proofs.step.carry_out.Goals as goal

-- there is a place for a connection
pub unreachable-requires : goal.unreachable-requires
unreachable-requires g c =
    let at = c.requires.stands in
    let told = c.in-Err-Full.ensures.story c.requires.told at.opening at.story at.stands in
    not_full (event_of c.args.happens) _ at.room
    (subst (λ a. IsFullWhere (event_of c.args.happens) a (length (live (count_released at.opening) at.story))) (ap answer_by c.in-Err-Full.field-0-is) told.full)

-- and files that stood for accounts go on doing so
pub unreachable-requires-in-Err-NotAStore : goal.unreachable-requires-in-Err-NotAStore
unreachable-requires-in-Err-NotAStore g c =
    let at = c.requires.stands in
    c.in-Err-NotAStore.ensures.sure c.requires.told at.opening at.story at.stands c.in-Err-NotAStore.field-0-0 (ap answer_by c.in-Err-NotAStore.field-0-is)

pub take_all-requires : goal.take_all-requires
take_all-requires g c =
    let few = few_answers (event_of c.args.happens) c.args.core.now c.step.new.self (g.D.Disk.state c.args.disk.now) (g.D.Disk.state c.step.new.disk) _ _
    c.requires.quiet c.requires.stands (λ o story stands. c.in-Ok.ensures.story c.requires.told o story stands) in
    omega (arith, c.requires.room, few)

pub returns-in_ok-take_all-in-Ok-clause-ok : goal.returns-in_ok-take_all-in-Ok-clause-ok
returns-in_ok-take_all-in-Ok-clause-ok g c =
    carries_on (event_of c.args.happens) c.args.core.now c.step.new.self c.take_all.new.core (g.D.Disk.state c.args.disk.now) (g.D.Disk.state c.step.new.disk) _ _
    c.args.tally.now c.take_all.new.self (released_of c.args.core.now) (map (λ (w : Arrival). w.framed) c.in-Ok.ensures.exact.came) c.requires.quiet c.in_ok-take_all-in-Ok.ensures.quiet
    c.take_all.ensures.core c.requires.stands (λ o story stands. c.in-Ok.ensures.story c.requires.told o story stands) c.in_ok-take_all-in-Ok.ensures.taken c.in-Ok.ensures.exact.turns
