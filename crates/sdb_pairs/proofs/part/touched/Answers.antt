use Rattle.std.proofs.Common.{◌∙◌, sym, ap, take, ◌++◌, ◌∷◌, [], take-suc, add-one}
use Rattle.sdb_pairs.specs.Parts.{touched}
use Rattle.sdb_pairs.proofs.PartLemmas.{touched_none, touched_more}
use Rattle.sdb_pairs.proofs.part.touched.Goals as goal

pub loop-op-init : goal.loop-op-init
loop-op-init c = c.new-part.ensures ∙ touched_none c.args.item.now

pub loop-op-preserved : goal.loop-op-preserved
loop-op-preserved c =
    let items = c.as_slice-op-items.result.now in
    let i = c.loop-op.op-index in
    let op = c.op-item.result in
    rw add-one
    (touched_more c.args.item.now c.loop-op.part c.add_touched.new.part (take i items) op c.pairs.ensures.rising c.loop-op.invariant c.in_ok-add_touched.ensures
    ∙ ap (touched c.args.item.now) (ap (λ x. take i items ++ x ∷ []) c.op-item.is ∙ sym (take-suc items i op c.loop-op-test.true)))
