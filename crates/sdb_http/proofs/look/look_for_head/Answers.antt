use Rattle.std.proofs.Common.{◌<◌, ◌≤◌, length, arith}
use Rattle.sdb_http.proofs.LookLemmas.{front_fault, front_long, none_by_scan}
use Rattle.sdb_http.proofs.look.look_for_head.Goals as goal

pub returns-in-Err : goal.returns-in-Err
returns-in-Err c =
    front_fault c.args.held.now c.in-Some.last c.in-Err.fault c.requires.trimmed
    (record { ends_at = c.in-Some.ensures.0; short = c.in-Some.ensures.1; judged = c.in-Err.ensures.judged })

pub returns-in-None : goal.returns-in-None
returns-in-None c =
    let held = c.args.held.now in
    let few : length held < 16384 = c.if-held-lt-HEAD_LIMIT.true in (
      record { within = omega arith; none = λ k less. c.in-None.ensures k (omega arith) less },
      none_by_scan held c.requires.trimmed few (λ k less. c.in-None.ensures k (omega arith) less),
    )

pub returns-in-None-2 : goal.returns-in-None-2
returns-in-None-2 c =
    let held = c.args.held.now in
    let reached : 16384 ≤ length held = c.if-held-lt-HEAD_LIMIT.false in
    front_long held c.requires.trimmed (record { reached = reached; none = λ k less. c.in-None-2.ensures k less (omega arith) })
