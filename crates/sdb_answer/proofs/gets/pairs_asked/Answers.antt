use Rattle.std.proofs.Common.{sym, ◌∙◌, ap, arith, take_all}
use Rattle.sdb_answer.specs.Gets.{asked_pairs}
use Rattle.sdb_answer.proofs.GetLemmas.{asked-take, asked-skip}
use Rattle.sdb_answer.proofs.gets.pairs_asked.Goals as goal
use Rattle.sdb_answer.proofs.gets.pairs_asked.Goals.{then-is_asked+in_ok-push, else-is_asked}

pub loop-pair-init : goal.loop-pair-init
loop-pair-init c = record { gathered = c.new-found.ensures; finds = c.in_ok-set.ensures }

pub loop-pair-preserved : goal.loop-pair-preserved
loop-pair-preserved c =
    let names = c.args.names.now in
    let pairs = c.args.pairs.now in
    let i = c.loop-pair.pair-index in
    let so_far = c.loop-pair.invariant in
    elim c.if-is_asked.branch [
      | then-is_asked+in_ok-push w ↦
          let is = sym c.is_asked.ensures ∙ w.if-is_asked.true in
          record {
            gathered = w.found-is ∙ asked-take names pairs i c.pair-item.result c.loop-pair.found w.push.new.self c.loop-pair-test.true c.pair-item.is is so_far.gathered w.in_ok-push.ensures.ok;
            finds = so_far.finds;
          }
      | else-is_asked w ↦
          let is = sym c.is_asked.ensures ∙ w.if-is_asked.false in
          record {
            gathered = w.found-is ∙ so_far.gathered ∙ sym (asked-skip names pairs i c.pair-item.result c.loop-pair-test.true c.pair-item.is is);
            finds = so_far.finds;
          }
    ]

pub returns : goal.returns
returns c = c.loop-pair.invariant.gathered ∙ ap (asked_pairs c.args.names.now) (take_all c.loop-pair.pair-index c.args.pairs.now (omega arith))
