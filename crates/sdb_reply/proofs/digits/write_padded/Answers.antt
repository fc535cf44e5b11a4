use Rattle.std.proofs.Common.{◌≡◌, ◌-◌, ◌+◌, sym, ◌∙◌, arith}
use Rattle.std.proofs.Math.ListN.{length-set}
use Rattle.sdb_reply.proofs.DigitsLemmas.{padded-step, padded-none}
use Rattle.sdb_reply.proofs.digits.write_padded.Goals as goal

pub loop-place-preserved : goal.loop-place-preserved
loop-place-preserved c =
    let left = c.loop-place.place - 1 in
    let next : c.loop-place.place ≡ c.loop-place.place - 1 + 1 = omega arith in
    let step = padded-step c.args.base c.loop-place.place left c.loop-place.n c.loop-place.digits next (omega arith) in
    (simp length-set (omega arith), rw c.digit.ensures (step ∙ c.loop-place.invariant.1))

pub returns : goal.returns
returns c =
    let done : c.loop-place.place ≡ 0 = omega arith in
    sym (padded-none c.args.base c.loop-place.n c.loop-place.place c.loop-place.digits done) ∙ c.loop-place.invariant.1
