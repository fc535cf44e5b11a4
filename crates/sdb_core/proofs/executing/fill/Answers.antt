use Rattle.std.proofs.Common.{◌<◌, ◌≤◌, length, Option, List, ℕ, option_map, sym, subst, arith}
use Rattle.std.proofs.lemmas.Bool.Decides.{nat_tests}
use Rattle.sdb_arrivals.specs.Queues.{Queues}
use Rattle.sdb_core.specs.Inside.{HasRoom}
use Rattle.sdb_core.proofs.FillLemmas.{FillsSo, fills_to_full, fills_to_none, room_one, turn}
use Rattle.sdb_core.proofs.executing.fill.Goals as goal

pub returns-in_default-clause-fills : goal.returns-in_default-clause-fills
returns-in_default-clause-fills g c =
    fills_to_none c.args.line.now c.requests.line c.args.store.now c.requests.store c.args.items.now c.requests.items c.in_default.ensures c.requests.invariant.fills

pub requests-preserved : goal.requests-preserved
requests-preserved g c =
    let few : length c.requests.line.held < 64 = grind (arith, nat_tests, c.requests-test.ensures) in
    let answer : Option (List ℕ) = option_map (λ b. b.bytes) c.execute-answer.result in
    record {
      fills = subst (λ (q : Queues). FillsSo c.args.line.now c.args.store.now q c.execute-answer.new.store c.args.items.now c.execute-answer.new.items) (sym c.hold.ensures)
          (turn answer c.args.line.now c.requests.line c.args.store.now c.requests.store c.execute-answer.new.store c.args.items.now c.requests.items c.execute-answer.new.items c.in-Some.first.now c.in-Some.ensures few c.execute-answer.ensures.executes c.execute-answer.ensures.looks c.requests.invariant.fills);
      room = subst (λ (q : Queues). HasRoom q c.execute-answer.new.store) (sym c.hold.ensures)
          (room_one answer c.requests.line c.requests.store c.execute-answer.new.store c.in-Some.first.now c.in-Some.ensures c.requests.invariant.room c.requests.invariant.fills.sound c.execute-answer.ensures.executes c.execute-answer.ensures.size);
      later = omega (arith, c.requests.invariant.later, c.execute-answer.ensures.later);
    }

pub returns-clause-fills : goal.returns-clause-fills
returns-clause-fills g c =
    let full : 64 ≤ length c.requests.line.held = grind (arith, nat_tests, c.requests-test.ensures) in
    fills_to_full c.args.line.now c.requests.line c.args.store.now c.requests.store c.args.items.now c.requests.items full c.requests.invariant.fills
