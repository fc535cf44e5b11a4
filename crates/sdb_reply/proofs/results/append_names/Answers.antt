use Rattle.std.proofs.Common.{sym, append-nil, arith}
use Rattle.sdb_reply.specs.Elements.{element}
use Rattle.sdb_reply.specs.Results.{domain_name}
use Rattle.sdb_reply.proofs.LoopLemmas.{appended-step, appended-all}
use Rattle.sdb_reply.proofs.results.append_names.Goals as goal

pub loop-name-init : goal.loop-name-init
loop-name-init c = sym (append-nil c.args.out.now.bytes)

pub loop-name-preserved : goal.loop-name-preserved
loop-name-preserved c = appended-step (element domain_name) c.args.names.now c.loop-name.name-index c.name-item.result c.args.out.now.bytes c.loop-name.out.bytes c.append_name.new.out.bytes c.loop-name-test.true c.name-item.is c.loop-name.invariant c.in_ok-append_name.ensures

pub returns : goal.returns
returns c = appended-all (element domain_name) c.args.names.now c.loop-name.name-index c.args.out.now.bytes c.loop-name.out.bytes (omega arith) c.loop-name.invariant
