use Rattle.std.proofs.Common.{sym, append-nil, arith}
use Rattle.sdb_reply.specs.Results.{item}
use Rattle.sdb_reply.proofs.LoopLemmas.{appended-step, appended-all}
use Rattle.sdb_reply.proofs.results.append_page.Goals as goal

pub loop-one-init : goal.loop-one-init
loop-one-init c = sym (append-nil c.args.out.now.bytes)

pub loop-one-preserved : goal.loop-one-preserved
loop-one-preserved c = appended-step item c.args.shown.now c.loop-one.one-index c.one-item.result c.args.out.now.bytes c.loop-one.out.bytes c.append_item.new.out.bytes c.loop-one-test.true c.one-item.is c.loop-one.invariant c.in_ok-append_item.ensures

pub returns : goal.returns
returns c = appended-all item c.args.shown.now c.loop-one.one-index c.args.out.now.bytes c.loop-one.out.bytes (omega arith) c.loop-one.invariant
