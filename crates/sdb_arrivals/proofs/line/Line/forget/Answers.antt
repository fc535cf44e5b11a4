use Rattle.std.proofs.Common.{List, map, ap, sym, ◌∙◌}
use Rattle.std.proofs.lemmas.List.{take-map}
use Rattle.sdb_arrivals.specs.declared.line.Queued.{Queued}
use Rattle.sdb_arrivals.specs.Queues.{answered_of, queued_of, sent_of}
use Rattle.sdb_arrivals.proofs.line.Line.forget.Goals as goal

pub returns : goal.returns
returns c =
    rw (← c.self.view_is)
    (ap (λ (ws : List Queued). record { held = map answered_of c.self.inside.held.items; waiting = ws; out = map sent_of c.self.inside.out.items }) (ap (map queued_of) c.truncate.ensures.items ∙ sym (take-map queued_of c.args.had c.self.inside.waiting.items)))
