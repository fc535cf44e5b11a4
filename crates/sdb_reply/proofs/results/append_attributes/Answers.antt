use Rattle.std.proofs.Common.{◌++◌, sym, ◌∙◌, ap, append-nil, arith}
use Rattle.sdb_reply.specs.Results.{attribute}
use Rattle.sdb_reply.proofs.LoopLemmas.{appended-step, appended-all, attributes-lent}
use Rattle.sdb_reply.proofs.results.append_attributes.Goals as goal

pub loop-pair-init : goal.loop-pair-init
loop-pair-init c = sym (append-nil c.args.out.now.bytes)

pub loop-pair-preserved : goal.loop-pair-preserved
loop-pair-preserved c = appended-step (λ pair. attribute pair.now) c.args.pairs.now c.loop-pair.pair-index c.pair-item.result c.args.out.now.bytes c.loop-pair.out.bytes c.append_attribute.new.out.bytes c.loop-pair-test.true c.pair-item.is c.loop-pair.invariant c.in_ok-append_attribute.ensures

pub returns : goal.returns
returns c = appended-all (λ pair. attribute pair.now) c.args.pairs.now c.loop-pair.pair-index c.args.out.now.bytes c.loop-pair.out.bytes (omega arith) c.loop-pair.invariant ∙ ap (λ l. c.args.out.now.bytes ++ l) (attributes-lent c.args.pairs.now)
