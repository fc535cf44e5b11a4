use Rattle.std.proofs.Common.{◌+◌, ◌*◌, refl, ◌∙◌, ap}
use Rattle.std.proofs.lemmas.Result.{IfOk-weaker}
use Rattle.sdb_bench.specs.Measures.{Measures, all_items, all_pairs, five_lines, fresh}
use Rattle.sdb_disk.specs.Memory.{memory_state}
use Rattle.sdb_bench.proofs.measure.Goals as goal

pub open-requires : goal.open-requires
open-requires c = record { told = refl; settled = c.new-disk.ensures.settled; empty = c.new-disk.ensures.empty }

pub play-requires-clause-stands : goal.play-requires-clause-stands
play-requires-clause-stands c = (fresh (memory_state c.«open».new.disk).moment, c.in_ok-core.ensures.stands)

pub returns : goal.returns
returns c =
    let o = fresh (memory_state c.«open».new.disk).moment in
    let played = c.in_ok-tally.ensures o c.in_ok-core.ensures.stands in
    let at_end = c.accounts.ensures ∙ played.accounts in
    IfOk-weaker c.report.result _ (λ text. Measures c.args.size text.bytes) (λ text is. record {
      moment = o.moment;
      story = played.story;
      events_are = played.events_are;
      steps = played.steps;
      done = played.done;
      plain = played.plain;
      text_is = is ∙ (λ i. five_lines (4 + 100 * c.args.size) (played.answers i) (((c.count_all-counts.ensures.items) ∙ ap all_items at_end) i) (((c.count_all-counts.ensures.pairs) ∙ ap all_pairs at_end) i) (c.digest.ensures _ played.holds i));
    }) c.report.ensures
