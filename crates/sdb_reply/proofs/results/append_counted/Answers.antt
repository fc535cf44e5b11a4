use Rattle.std.proofs.Common.{◌++◌, ◌∙◌, ap}
use Rattle.sdb_reply.specs.Escape.{content}
use Rattle.sdb_reply.proofs.FramedLemmas.{counted-written}
use Rattle.sdb_reply.proofs.results.append_counted.Goals as goal

pub returns : goal.returns
returns c =
    counted-written c.args.out.now.bytes c.append.new.self.bytes c.append_content.new.out.bytes c.append-2.new.self.bytes c.append_content-2.new.out.bytes c.append-3.new.self.bytes c.append_content-3.new.out.bytes c.append-4.new.self.bytes c.args.number
    c.in_ok-append.ensures.ok (c.in_ok-append_content.ensures ∙ ap (λ l. c.append.new.self.bytes ++ content l) c.counting_item.ensures) c.in_ok-append-2.ensures.ok
    (c.in_ok-append_content-2.ensures ∙ ap (λ l. c.append-2.new.self.bytes ++ content l) c.counting_attribute.ensures) c.in_ok-append-3.ensures.ok
    (c.in_ok-append_content-3.ensures ∙ ap (λ l. c.append-3.new.self.bytes ++ content l) c.format.ensures.text) c.in_ok-append-4.ensures.ok
