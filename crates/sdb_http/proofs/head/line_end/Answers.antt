use Rattle.std.proofs.Common.{◌≡◌, ◌+◌, ◌-◌, ◌<◌, ◌≤◌, length, take, drop, subst, ℕ, arith, length-drop, length-take-le}
use Rattle.sdb_http.specs.Inside.{HasNoEnd}
use Rattle.sdb_http.proofs.HeadLemmas.{no_end_in}
use Rattle.sdb_http.proofs.head.line_end.Goals as goal

pub returns-in-Some : goal.returns-in-Some
returns-in-Some c =
    let held = c.args.held.now in
    let at = c.args.at in
    let limit = c.args.limit in
    let first = c.in-Some.ensures.0 in
    let sized : length (take (limit - at) (drop at held)) ≡ limit - at = length-take-le (limit - at) (drop at held) (omega (arith, length-drop at held)) in
    let less : c.in-Some.place < limit - at = omega (arith, first.high) in
    (omega arith, omega arith, no_end_in held at limit c.in-Some.place c.requires.within (omega arith) first.before)

pub returns-in-None : goal.returns-in-None
returns-in-None c =
    let held = c.args.held.now in
    let at = c.args.at in
    let limit = c.args.limit in
    let sized : length (take (limit - at) (drop at held)) ≡ limit - at = length-take-le (limit - at) (drop at held) (omega (arith, length-drop at held)) in
    let whole : at + (limit - at) ≡ limit = omega arith in
    subst (λ (to : ℕ). HasNoEnd held at to) whole (no_end_in held at limit (limit - at) c.requires.within (omega arith) (λ k low high. c.in-None.ensures k low (omega arith)))
