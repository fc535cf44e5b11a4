use Rattle.std.proofs.Common.{◌^◌, Some, Err, sym, ◌∙◌, ap, subst, arith}
use Rattle.sdb_arrivals.specs.Story.{event_of as story_event}
use Rattle.sdb_script.specs.Events.{event_of}
use Rattle.sdb_script.specs.Reading.{GivesFault, with_more}
use Rattle.sdb_bench.proofs.PlayLemmas.{Playing, can_come, no_bad, no_long, playing_none, plays_all, plays_on, reads_on, with_room}
use Rattle.sdb_bench.proofs.playing.play.Goals as goal

pub events-init : goal.events-init
events-init g c =
    subst (λ r. Playing c.args.size c.args.core.now c.args.core.now (g.D.Disk.state c.args.disk.now) (g.D.Disk.state c.args.disk.now) c.new-input.result r c.new-tally.result) (sym c.new-reader.ensures)
    (playing_none c.args.size c.args.core.now (g.D.Disk.state c.args.disk.now) c.new-input.result c.new-tally.result (c.new-input.ensures ∙ c.in_ok-generate.ensures)
    c.requires.empty.0 c.requires.empty.1 c.requires.empty.2 c.requires.ready c.requires.told c.new-tally.ensures.none c.new-tally.ensures.empty)

-- no record of the workload is wrong
pub unreachable-requires : goal.unreachable-requires
unreachable-requires g c =
    let gives = c.in-Err-Bad.ensures.gives in
    no_bad _ _ _ _ _ _ _ _ _ _ c.events.invariant gives.1
    (subst (λ f. GivesFault (2 ^ 40) f (with_more c.events.reader gives.0) (Some c.next.new.input)) c.in-Err-Bad.field-0-is gives.2.0).1

-- its source never fails
pub unreachable-requires-in-Err-Read : goal.unreachable-requires-in-Err-Read
unreachable-requires-in-Err-Read g c = let rose = c.in-Err-Read.ensures.read (ap (λ broke. Err broke) c.in-Err-Read.field-0-is) in absurd (omega (arith, rose))

-- and it fits into an input
pub unreachable-requires-in-Err-TooLong : goal.unreachable-requires-in-Err-TooLong
unreachable-requires-in-Err-TooLong g c =
    let gives = c.in-Err-TooLong.ensures.gives in
    no_long _ _ _ _ _ _ _ _ _ _ c.events.invariant gives.1 c.requires.most
    (subst (λ f. GivesFault (2 ^ 40) f (with_more c.events.reader gives.0) (Some c.next.new.input)) c.in-Err-TooLong.field-0-is gives.2.0).1

pub returns-in_default : goal.returns-in_default
returns-in_default g c =
    let gives = c.in-Ok.ensures.gives in
    plays_all _ _ _ _ _ _ _ _ _ _ c.events.invariant gives.1 (event_of c.in-Ok.event) c.next.new.self c.in_default.ensures gives.2

pub carry_out-requires-clause-come : goal.carry_out-requires-clause-come
carry_out-requires-clause-come g c =
    let gives = c.in-Ok.ensures.gives in
    can_come _ _ _ _ _ _ _ _ _ _ c.events.invariant gives.1 (story_event c.in-Some.happens) (event_of c.in-Ok.event) c.next.new.self c.in-Some.ensures gives.2

pub carry_out-requires-clause-room : goal.carry_out-requires-clause-room
carry_out-requires-clause-room g c = omega (arith, c.events.invariant.room, c.events.invariant.within)

pub carry_out-requires-clause-stands : goal.carry_out-requires-clause-stands
carry_out-requires-clause-stands g c = with_room _ _ _ _ _ _ _ _ c.events.invariant c.requires.stands.0 c.requires.stands.1

pub events-smaller-in_ok-carry_out : goal.events-smaller-in_ok-carry_out
events-smaller-in_ok-carry_out g c =
    let gives = c.in-Ok.ensures.gives in
    let further = reads_on _ _ _ _ _ _ _ _ _ _ c.events.invariant gives.1 (story_event c.in-Some.happens) (event_of c.in-Ok.event) c.next.new.self c.in-Some.ensures gives.2 in
    omega (arith, further, c.in-Ok.ensures.within)

pub events-smaller : goal.events-smaller
events-smaller g c =
    let gives = c.in-Ok.ensures.gives in
    let further = reads_on _ _ _ _ _ _ _ _ _ _ c.events.invariant gives.1 (story_event c.in-Some.happens) (event_of c.in-Ok.event) c.next.new.self c.in-Some.ensures gives.2 in
    omega (arith, further, c.in-Ok.ensures.within)

pub events-preserved-in_ok-carry_out : goal.events-preserved-in_ok-carry_out
events-preserved-in_ok-carry_out g c =
    let gives = c.in-Ok.ensures.gives in
    plays_on _ _ _ _ _ _ _ _ _ _ c.events.invariant gives.1 c.carry_out.new.core (g.D.Disk.state c.carry_out.new.disk) c.carry_out.new.tally
    (story_event c.in-Some.happens) (event_of c.in-Ok.event) c.next.new.self c.in-Some.ensures gives.2 c.in-Ok.ensures.within c.in_ok-carry_out.ensures.ok
    c.carry_out.ensures.ready c.carry_out.ensures.told

pub events-preserved : goal.events-preserved
events-preserved g c =
    let gives = c.in-Ok.ensures.gives in
    plays_on _ _ _ _ _ _ _ _ _ _ c.events.invariant gives.1 c.carry_out.new.core (g.D.Disk.state c.carry_out.new.disk) c.carry_out.new.tally
    (story_event c.in-Some.happens) (event_of c.in-Ok.event) c.next.new.self c.in-Some.ensures gives.2 c.in-Ok.ensures.within c.in_ok-carry_out.ensures.ok
    c.carry_out.ensures.ready c.carry_out.ensures.told
