use Rattle.std.proofs.Common.{sym, ◌∙◌, ap, filter, arith, take_all}
use Rattle.sdb_page.specs.Seen.{shows}
use Rattle.sdb_page.proofs.ShownLemmas.{shown-filter}
use Rattle.sdb_page.proofs.showing.show.Goals as goal

pub returns : goal.returns
returns c =
    c.loop-pair.invariant ∙ ap (filter (shows c.args.output.now)) (take_all c.loop-pair.pair-index c.args.pairs.now (omega arith)) ∙ sym (shown-filter c.args.output.now c.args.pairs.now)
